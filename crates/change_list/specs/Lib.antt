pub mod Recording
pub mod inner
