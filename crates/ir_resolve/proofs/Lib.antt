pub mod Putting
pub mod Adding
pub mod Naming
pub mod Whole
