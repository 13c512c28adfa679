pub mod Counts
pub mod Fresh
pub mod Links
pub mod LocalUses
pub mod Near
pub mod Nodes
pub mod Reading
pub mod Standing
