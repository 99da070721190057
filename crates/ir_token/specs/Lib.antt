pub mod Bytes
pub mod Nesting
pub mod Names
pub mod Texts
pub mod LeftOut
pub mod Lists
pub mod Ends
