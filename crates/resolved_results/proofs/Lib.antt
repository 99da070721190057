pub mod Bits
pub mod Consts
pub mod Instrs
pub mod Whole
