pub mod Numbered
pub mod Stops
pub mod Mapped
pub mod SessionState
pub mod Run
