pub mod Constants
pub mod Printed
