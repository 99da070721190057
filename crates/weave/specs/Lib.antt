pub mod Woven
pub mod Shuffle
