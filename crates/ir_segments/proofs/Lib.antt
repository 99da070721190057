pub mod Cutting
pub mod Segs
