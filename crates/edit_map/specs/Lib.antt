pub mod Mapping
pub mod Builder
pub mod Following
pub mod MapErrorText
pub mod inner
