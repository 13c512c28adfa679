pub mod Ranges
pub mod Starting
pub mod Taking
pub mod Calling
pub mod Stepping
pub mod Running
pub mod Growing
