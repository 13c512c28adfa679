pub mod Copying
pub mod Exactness
pub mod OnChecks
mod KnownFacts
pub mod Inside
