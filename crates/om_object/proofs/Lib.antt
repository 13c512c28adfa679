pub mod Places
pub mod Bytes
pub mod Elsewhere
pub mod HeadsAt
pub mod Chains
pub mod Placed
pub mod Made
pub mod FoundSpots
