pub mod Addresses
pub mod TakenUp
pub mod Positions
mod Indexed
mod Noted
pub mod Unchanged
