pub mod Longest
pub mod LongestRest
pub mod LongestTypes
pub mod LongestConstants
pub mod LongestFlags
pub mod LongestValues
pub mod LongestAttributes
