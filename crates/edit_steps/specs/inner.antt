-- What private calls cite, and the crates above for theirs: no contract that a user calls by names any of it.
pub mod Followers
pub mod GapTable
pub mod Turns
pub mod Waits
pub mod Waiting
pub mod Widths
pub mod Visited
pub mod AimTargets
pub mod Counts
pub mod Putting
pub mod Stage
pub mod Payload
pub mod Splicing
pub mod Stages
