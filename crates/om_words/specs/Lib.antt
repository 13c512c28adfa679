pub mod Numerals
pub mod Sentences
pub mod Meaning
pub mod Laws
pub mod Rows
