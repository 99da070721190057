pub mod Faults
pub mod Scopes
pub mod Enters
pub mod Results
pub mod Slots
pub mod Markers
pub mod Counting
