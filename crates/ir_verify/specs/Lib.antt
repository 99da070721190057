pub mod Rules
pub mod Judging
pub mod Types
pub mod Demands
pub mod Undefined
pub mod Verified
