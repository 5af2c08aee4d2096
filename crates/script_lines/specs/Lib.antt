pub mod Name
pub mod Dialect
pub mod ScriptLine
pub mod Line
pub mod LineValue
pub mod Refusals
pub mod inner
