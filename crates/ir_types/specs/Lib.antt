pub mod IrType
pub mod Layout
pub mod Placing
pub mod Refusals
pub mod Standing
pub mod TypeTable
