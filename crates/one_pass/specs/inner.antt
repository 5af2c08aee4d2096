-- What private calls cite, and the crates above for theirs: no contract that a user calls by names any of it.
pub mod Sweep
pub mod Pass
pub mod OpenNodes
pub mod Marked
pub mod Built
pub mod Lists
pub mod Sought
pub mod TextOrder
pub mod OwnerTables
pub mod GivenTables
pub mod Marks
pub mod Root
