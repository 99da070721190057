pub mod Machine
pub mod Invariant
pub mod Counts
pub mod Runs
