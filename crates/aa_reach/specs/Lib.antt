pub mod Reached
pub mod Asked
