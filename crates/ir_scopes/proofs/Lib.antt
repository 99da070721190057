pub mod Tables
pub mod Entering
pub mod Least
pub mod Apart
pub mod Counter
