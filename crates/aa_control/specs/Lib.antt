pub mod Control
pub mod Asked
pub mod Coming
