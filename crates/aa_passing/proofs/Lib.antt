pub mod Back
pub mod Stands
pub mod Passed
pub mod Called
pub mod Whole
