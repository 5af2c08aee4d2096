pub mod Ends
pub mod Answer
pub mod Bytes
pub mod inner
