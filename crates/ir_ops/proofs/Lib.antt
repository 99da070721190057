pub mod Answers
pub mod Arithmetic
pub mod Congruence
pub mod Division
pub mod Signed
pub mod Table
pub mod Truncation
pub mod TwosComplement
