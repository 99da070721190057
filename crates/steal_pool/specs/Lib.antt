pub mod Hints
pub mod Pools
