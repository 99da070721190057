pub mod Alike
pub mod Operands
pub mod Kept
pub mod Typed
