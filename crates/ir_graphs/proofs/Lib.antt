pub mod Nearing
pub mod Lowered
pub mod Covering
pub mod Opened
pub mod Walking
