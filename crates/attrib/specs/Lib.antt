pub mod Annotated
pub mod Lines
pub mod Run
