-- What private calls cite.
pub mod TakenOver
pub mod Codes
