pub mod Inserted
pub mod KeyCode
pub mod Keyed
pub mod Lends
pub mod LendsSlot
pub mod Linked
pub mod Lists
pub mod Narrow
