pub mod Cost
pub mod Edges
pub mod Entering
pub mod Naming
pub mod RowFacts
pub mod Shown
