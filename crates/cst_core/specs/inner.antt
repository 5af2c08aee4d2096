-- What private calls cite: no contract that a user calls by names any of it.
pub mod ChildSlots
pub mod InTree
pub mod SlotPath
pub mod ElementCode
