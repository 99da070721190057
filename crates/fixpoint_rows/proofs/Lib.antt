pub mod Teaming
pub mod Trying
