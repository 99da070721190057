pub mod Bits
pub mod Removed
pub mod Passes
