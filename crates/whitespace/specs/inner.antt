-- What private calls cite, and the crates above for theirs: no contract that a user calls by names any of it.
pub mod OpenNodes
pub mod Shift
pub mod LastLine
pub mod AlongRefusal
pub mod SpaceRule
pub mod SpaceInCode
pub mod SpaceRefusal
