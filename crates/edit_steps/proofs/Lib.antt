mod AimSteps
mod Aims
pub mod AllowedSteps
pub mod Altered
mod FirstStages
pub mod Below
mod LinkTables
mod Completeness
mod Counting
mod CurrentPaths
mod DeadEdits
mod TestsOfLinks
pub mod Deepest
mod DefaultFirst
mod EachOnce
mod Entering
mod GapTables
mod Gaps
mod NextInGroup
pub mod Groups
mod Indices
mod Links
pub mod LiveAims
mod NextAims
pub mod Ordered
mod Orders
mod PathOrder
mod PayloadSteps
mod Putting
mod Readiness
mod RootSteps
pub mod SomeReady
mod ReplacedRoot
mod Rows
pub mod Splits
mod Visiting
mod Stepping
mod Steps
mod Tables
mod StepOfStage
pub mod StepOfStages
mod TurnOrder
mod Turns
mod TurnsSorted
pub mod Undropped
mod WaitCounts
mod Ways
mod Widths
