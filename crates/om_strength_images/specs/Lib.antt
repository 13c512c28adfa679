pub mod OneAnswer
pub mod OneRun
pub mod Rows
