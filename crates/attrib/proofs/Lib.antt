pub mod Fit
pub mod Holding
pub mod Joining
pub mod Refused
pub mod Stopped
