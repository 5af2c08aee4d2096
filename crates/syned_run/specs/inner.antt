-- What private calls cite, and the crates above for theirs: no contract that a user calls by names any of it.
pub mod ExitCode
pub mod Printing
pub mod ReadOn
pub mod Responding
pub mod SynedAnswer
