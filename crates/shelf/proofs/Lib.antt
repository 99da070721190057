pub mod Every
pub mod Shelf
