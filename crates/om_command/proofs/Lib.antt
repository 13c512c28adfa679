pub mod Adding
pub mod Pieces
pub mod Loads
pub mod Ran
mod Simmed
mod Causing
mod Telling
mod SimTelling
mod Linked
mod LinkTelling
mod RunTelling
mod ExecTelling
