-- What private calls cite: no contract that a user calls by names any of it.
pub mod Following
pub mod Joined
pub mod Composing
pub mod Trimming
