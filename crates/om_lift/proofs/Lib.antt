pub mod Sets
pub mod Shapes
pub mod Growing
pub mod Texts
