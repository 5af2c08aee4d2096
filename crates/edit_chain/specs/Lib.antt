pub mod Chain
pub mod ChainText
pub mod Found
pub mod ChainRefusal
pub mod inner
