pub mod Calls
pub mod Changes
pub mod Edits
pub mod Laws
pub mod Narrow
pub mod Orders
pub mod Walks
pub mod Writes
