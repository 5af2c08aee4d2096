-- What private calls cite, and the crates above for theirs: no contract that a user calls by names any of it.
pub mod Annotating
pub mod PlaceTables
pub mod PlacesRefusal
pub mod PlanRun
pub mod PlanStages
pub mod Codes
pub mod CopyPaths
