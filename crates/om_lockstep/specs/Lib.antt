pub mod Addresses
pub mod Goes
pub mod Forms
pub mod Lockstep
pub mod Rows
