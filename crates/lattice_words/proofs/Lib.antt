pub mod LadderBits
pub mod LadderLaws
pub mod Locality
pub mod Monotone
pub mod WordBits
