pub mod Texts
pub mod WrongPlaces
