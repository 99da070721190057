pub mod Graph
pub mod Row
pub mod Rows
