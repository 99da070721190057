pub mod Certificate
pub mod Lines
