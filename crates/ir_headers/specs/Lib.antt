pub mod Leaves
pub mod Headers
pub mod Stand
pub mod Globals
pub mod Values
