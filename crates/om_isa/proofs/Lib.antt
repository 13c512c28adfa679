pub mod Rows
pub mod Found
pub mod Reading
pub mod Masks
pub mod Pieces
