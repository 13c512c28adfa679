pub mod Outs
pub mod ByLabel
pub mod Exact
pub mod Passing
pub mod Rows
