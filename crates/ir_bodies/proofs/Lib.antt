pub mod Filling
pub mod Noting
pub mod Ordered
pub mod Numbered
