pub mod Trees
pub mod Joined
pub mod Consts
