pub mod Ladders
pub mod Words
