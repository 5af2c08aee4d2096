pub mod TextEdits
pub mod inner
