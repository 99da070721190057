pub mod Kinds
pub mod Capture
pub mod Passing
pub mod Asked
pub mod Arms
