pub mod Leading
pub mod Seen
pub mod Marks
pub mod Named
pub mod Pads
pub mod Sorting
pub mod Sources
pub mod Told
