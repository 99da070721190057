pub mod Order
pub mod Uses
pub mod Noted
pub mod Raised
