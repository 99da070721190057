pub mod Rules
pub mod Doors
