pub mod Finding
pub mod Lowering
pub mod Sweeps
pub mod Words
