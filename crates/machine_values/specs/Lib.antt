pub mod Outcomes
pub mod Data
