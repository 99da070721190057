pub mod LongestEntities
pub mod Taking
pub mod Steps
pub mod LongestHeaders
pub mod LongestGlobals
