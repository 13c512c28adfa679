pub mod Appending
pub mod HexSteps
