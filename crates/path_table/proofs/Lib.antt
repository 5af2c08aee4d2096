pub mod PathTables
pub mod EnteredSteps
pub mod Ways
