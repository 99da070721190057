pub mod Tools
pub mod Unions
pub mod Rules
pub mod Growing
pub mod Greatest
pub mod Effects
pub mod Bits
pub mod Unbuilt
