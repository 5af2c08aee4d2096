mod Lists
pub mod Copies
mod Children
mod Refusals
pub mod Tables
mod Distinct
pub mod Making
mod Numbered
pub mod Places
mod Shapes
pub mod Followed
pub mod Climbs
pub mod RowTrees
pub mod Rows
mod Upwards
mod Passing
mod Reached
