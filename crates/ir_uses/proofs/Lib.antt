pub mod Listing
pub mod Calling
pub mod Raising
