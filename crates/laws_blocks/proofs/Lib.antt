pub mod Kept
pub mod Allocas
pub mod Turning
pub mod Passing
pub mod Constants
pub mod Holding
