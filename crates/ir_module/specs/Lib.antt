pub mod Places
pub mod Edges
pub mod Operands
pub mod Calls
pub mod Formed
pub mod WellFormed
