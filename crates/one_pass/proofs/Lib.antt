mod Alike
mod Ascending
pub mod OneAim
pub mod SharedRuns
pub mod Reordered
pub mod OpenedNode
pub mod NextAim
pub mod NodeFurther
pub mod NodeAhead
pub mod NodeSteps
pub mod SweepStart
pub mod Sweeping
mod AllCounted
pub mod EnteredBack
mod MarksInOrder
mod Children
mod CopiesFound
mod Counted
pub mod Counting
mod Dependents
mod EmptyLists
mod MadeOf
mod Marks
mod MarksEntered
mod MarksGiven
mod MarksKept
mod MarksTold
mod GivenEntered
mod Registered
mod Rooted
mod Rows
pub mod TextOrders
pub mod Tops
mod TouchedNodes
mod OpenPath
pub mod WholeTree
