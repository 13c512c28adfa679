pub mod ByLabel
pub mod Exact
pub mod Inside
pub mod OneTable
pub mod Passing
pub mod Rows
