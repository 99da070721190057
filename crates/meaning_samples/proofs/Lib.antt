pub mod Lists
pub mod Tests
pub mod Fairness
pub mod ValueTests
