pub mod Lists
pub mod EdgeRow
pub mod Inside
pub mod Lending
pub mod Words
