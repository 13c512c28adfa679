pub mod Thorough
pub mod Rows
pub mod Laws
pub mod UseRows
pub mod LoneHalf
pub mod Worked
