pub mod Composed
pub mod Counted
pub mod Answered
