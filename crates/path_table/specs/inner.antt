-- What private calls cite, and the crates above for theirs: no contract that a user calls by names any of it.
pub mod Steps
pub mod PathTable
