pub mod IsFlow
pub mod Found
pub mod Laws
pub mod Effects
pub mod Exits
pub mod Filling
pub mod Landing
pub mod Rows
