pub mod Listed
pub mod Summed
