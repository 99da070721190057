pub mod Counting
pub mod Limits
pub mod Accepted
pub mod Causes
pub mod Following
pub mod Ready
