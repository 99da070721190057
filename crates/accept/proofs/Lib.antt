pub mod Counted
pub mod Sized
pub mod Edges
pub mod Told
