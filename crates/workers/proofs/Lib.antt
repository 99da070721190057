pub mod Seating
pub mod Looking
pub mod Telling
pub mod Knowing
pub mod Moving
pub mod Teaming
