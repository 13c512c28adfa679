pub mod Relocs
pub mod Rows
