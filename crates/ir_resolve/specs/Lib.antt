pub mod Inputs
pub mod Functions
pub mod Entities
pub mod Building
pub mod Answers
pub mod Voids
pub mod Modules
