pub mod Removal
pub mod RemovalText
