pub mod Contexts
pub mod Faults
pub mod Modules
