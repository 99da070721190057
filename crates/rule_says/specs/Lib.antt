pub mod Reading
pub mod Saying
pub mod Meeting
pub mod Listing
pub mod Calls
