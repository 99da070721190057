pub mod Judged
pub mod Covers
pub mod Segments
pub mod FirstUse
pub mod Verdicts
