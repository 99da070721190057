pub mod Typing
pub mod Passing
pub mod Stepping
pub mod Holding
