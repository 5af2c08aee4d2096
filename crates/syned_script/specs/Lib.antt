pub mod RefusalText
pub mod Script
pub mod ShownValue
pub mod State
pub mod StopOfError
pub mod WordValue
pub mod inner
