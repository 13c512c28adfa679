pub mod Numerals
pub mod Names
pub mod Statements
pub mod Lines
pub mod Parsing
pub mod Forms
pub mod Reading
pub mod Rows
