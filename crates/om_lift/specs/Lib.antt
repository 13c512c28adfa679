pub mod Places
pub mod Lifting
pub mod Rows
