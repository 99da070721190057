pub mod Guarding
pub mod Translating
pub mod Pushing
pub mod Asking
pub mod Blocks
pub mod Making
pub mod Splitting
pub mod Finding
