pub mod Digits
pub mod First
pub mod Equal
pub mod Known
