pub mod Ends
pub mod Known
pub mod Blocks
pub mod Openings
pub mod Entries
pub mod Pairs
