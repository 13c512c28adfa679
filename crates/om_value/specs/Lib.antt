pub mod Same
pub mod Lift
pub mod Rows
