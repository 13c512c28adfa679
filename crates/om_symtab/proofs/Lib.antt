pub mod ZeroEnd
pub mod InOrder
pub mod Fronts
