pub mod Removal
pub mod Judged
