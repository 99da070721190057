pub mod Taking
pub mod Making
pub mod Steps
