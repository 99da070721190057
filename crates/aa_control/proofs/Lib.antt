pub mod Instrs
pub mod Kept
pub mod Whole
pub mod Padded
pub mod Together
pub mod Begins
pub mod Died
pub mod Comes
