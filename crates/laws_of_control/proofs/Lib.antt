pub mod Literals
pub mod Living
pub mod Able
pub mod Moves
pub mod Steps
pub mod Taken
pub mod Holding
