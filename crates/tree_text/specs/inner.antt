-- What private calls cite.
pub mod Completing
pub mod Gap
pub mod Indents
pub mod Meant
pub mod NamedKinds
pub mod Nowhere
pub mod OpenDepth
pub mod OpenTrees
pub mod Reading
pub mod UnnamedKinds
