pub mod Layouts
pub mod Operands
pub mod Instrs
pub mod Modules
