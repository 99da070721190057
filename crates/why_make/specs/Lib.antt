pub mod Sweeps
pub mod Going
pub mod Marked
