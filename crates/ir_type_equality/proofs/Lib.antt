pub mod Contents
pub mod Numbering
pub mod Rounds
