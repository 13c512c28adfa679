pub mod Placing
pub mod Sent
pub mod Done
pub mod Steps
