pub mod Equal
pub mod Indices
pub mod One
pub mod Parts
pub mod Tests
