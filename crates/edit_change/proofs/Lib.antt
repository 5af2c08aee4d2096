pub mod Aiming
pub mod AimsApart
pub mod Around
pub mod BroughtTops
pub mod AlteredNodes
pub mod Clashes
mod SlotsOfParents
pub mod DocumentOrder
mod Bisected
mod Closing
pub mod Edits
mod Found
pub mod GapRule
pub mod AimsHere
pub mod Independents
pub mod Innermost
pub mod Lists
pub mod MovedAims
pub mod OpenAims
pub mod OwnerDepth
pub mod Owners
pub mod OwnersFirst
pub mod OwnersKeep
pub mod Paths
pub mod Positions
pub mod Regions
pub mod Relabelled
pub mod RewrittenAlike
pub mod RootAlone
mod RootTargets
mod Scanning
pub mod SeenBelow
pub mod Shared
pub mod Sites
pub mod GivenTrees
mod Slots
pub mod Surrounding
mod Sweeping
pub mod Untouched
pub mod WayOfRegions
