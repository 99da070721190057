pub mod Quiet
pub mod Entering
pub mod Permits
pub mod Accesses
pub mod Steps
pub mod Holding
pub mod Reaching
