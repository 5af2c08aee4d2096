-- What private calls cite.
pub mod Indexing
pub mod ByPath
