pub mod Places
pub mod Steps
pub mod Joins
pub mod Striking
pub mod Rooms
pub mod Remembering
pub mod Beginning
pub mod Gathering
