pub mod OneAnswer
pub mod OneRun
