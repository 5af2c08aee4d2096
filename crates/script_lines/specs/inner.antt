-- What private calls cite: no contract that a user calls by names any of it.
pub mod Word
pub mod Taken
pub mod Slots
pub mod Commands
pub mod Expressions
