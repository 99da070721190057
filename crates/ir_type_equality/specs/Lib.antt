pub mod Content
pub mod Equality
pub mod Numbers
