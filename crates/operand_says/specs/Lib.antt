pub mod Kinds
pub mod Asked
