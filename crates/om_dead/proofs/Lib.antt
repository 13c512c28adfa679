pub mod Growing
pub mod Falling
pub mod Naming
pub mod Reading
pub mod Searching
pub mod Dropping
mod Halves
mod InTexts
mod Listing
mod Shapes
mod OnSweeps
mod OnGraphs
mod OnLowering
mod OnFollowing
mod OnRegions
mod Unmarked
mod Prunes
