pub mod Blocks
pub mod Entities
pub mod Lookups
pub mod Named
pub mod Operations
pub mod Survey
pub mod Values
