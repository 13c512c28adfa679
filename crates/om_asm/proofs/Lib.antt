pub mod Pieces
pub mod Bounded
pub mod Decimals
pub mod Pairs
pub mod Named
pub mod Doing
pub mod Kept
