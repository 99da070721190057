pub mod Integers
pub mod Layouts
