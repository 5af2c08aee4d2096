-- What private calls cite: no contract that a user calls by names any of it.
pub mod Codes
pub mod RunError
pub mod StepText
