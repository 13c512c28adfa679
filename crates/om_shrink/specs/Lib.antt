pub mod Shrinks
pub mod Laws
pub mod Placed
