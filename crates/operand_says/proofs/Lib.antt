pub mod Sizes
pub mod Far
pub mod Words
pub mod Spoken
pub mod Bits
pub mod Given
pub mod Groups
pub mod Ones
