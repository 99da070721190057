mod Arguments
pub mod OneCommand
mod Options
mod Refusals
mod Swaps
mod SwapFaults
