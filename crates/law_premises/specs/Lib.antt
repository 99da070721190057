pub mod Premises
pub mod Types
pub mod Indices
