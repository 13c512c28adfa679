pub mod Written
pub mod Lengths
pub mod LaidOut
pub mod RoundTrip
pub mod Rows
