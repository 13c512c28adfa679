pub mod Mapped
pub mod Memory
pub mod View
pub mod Actions
pub mod Streams
pub mod Calls
pub mod Steps
pub mod Writing
