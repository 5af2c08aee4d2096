pub mod Escape
pub mod Depth
pub mod Grammar
pub mod KindNames
pub mod Lines
pub mod Refusals
pub mod TreeText
pub mod inner
