pub mod Fields
pub mod Codes
pub mod Words
pub mod Registers
pub mod Target
pub mod SystemCall
pub mod Rows
pub mod Effect
