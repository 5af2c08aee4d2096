pub mod Rearranged
pub mod Rewritten
