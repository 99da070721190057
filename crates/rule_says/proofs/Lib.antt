pub mod Held
pub mod Terms
pub mod Mets
pub mod Firsts
pub mod Laddered
pub mod Built
pub mod Promised
