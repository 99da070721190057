pub mod Additions
pub mod Layouts
pub mod Notes
pub mod Queries
pub mod Refusals
pub mod Settling
pub mod Standings
pub mod Starts
