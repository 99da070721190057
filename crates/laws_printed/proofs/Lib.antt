pub mod Lists
pub mod Attributes
pub mod Standing
pub mod Values
pub mod Uses
pub mod Places
pub mod Printed
