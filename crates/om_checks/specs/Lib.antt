pub mod Steps
pub mod Needs
pub mod Laws
