pub mod ChildPairs
mod Dedented
mod LastLines
mod Lines
mod OpenNodes
mod Openings
pub mod Restored
mod RowsOfIndentation
mod RowsOfSpaces
mod Shifted
mod TokensBefore
