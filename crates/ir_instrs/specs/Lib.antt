pub mod Leaves
pub mod Reading
pub mod Uses
pub mod Operands
pub mod Words
pub mod Ops
pub mod Terms
