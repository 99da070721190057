pub mod Unbuilt
pub mod Sound
