pub mod Fitting
pub mod Runs
pub mod Spots
pub mod Each
pub mod WellFormed
