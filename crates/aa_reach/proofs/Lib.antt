pub mod Below
pub mod Calls
pub mod Passed
pub mod Segs
pub mod Whole
pub mod Ranked
pub mod Listed
