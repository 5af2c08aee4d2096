pub mod Schedule
pub mod OrderRefusal
pub mod DefaultOrder
pub mod StepCount
pub mod inner
