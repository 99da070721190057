pub mod Constants
pub mod Offsets
pub mod Same
pub mod Types
