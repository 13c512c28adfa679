pub mod Classes
pub mod Symbols
pub mod Zeros
pub mod Rows
