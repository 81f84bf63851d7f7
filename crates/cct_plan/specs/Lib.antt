pub mod Certificate
pub mod Row
