pub mod Lost
pub mod Sweeping
pub mod Going
pub mod Marking
pub mod Listing
pub mod Blocks
pub mod Looked
