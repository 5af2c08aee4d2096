-- What private calls cite, and the crates above for theirs: no contract that a user calls by names any of it.
pub mod Aimed
pub mod AimFrom
pub mod DocumentOrder
pub mod Targets
pub mod Fate
pub mod Clash
pub mod Open
pub mod OwnerPlaces
pub mod OneNode
pub mod KindOnly
pub mod PositionCode
pub mod Codes
pub mod ChangeCodes
pub mod PathLists
