pub mod Promised
pub mod Told
pub mod Instrs
pub mod Kept
pub mod Called
pub mod Whole
pub mod Together
