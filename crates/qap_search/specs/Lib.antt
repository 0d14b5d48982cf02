pub mod Certificate
pub mod Law
pub mod Node
pub mod Runs
pub mod Tuples
pub mod Worker
