pub mod Context
pub mod Calls
pub mod Instrs
pub mod Lines
pub mod Bodies
pub mod Building
pub mod Groups
pub mod Order
