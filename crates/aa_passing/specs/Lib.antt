pub mod Passing
pub mod Returned
pub mod Entered
