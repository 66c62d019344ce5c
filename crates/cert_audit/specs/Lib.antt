pub mod Audit
pub mod Certificate
pub mod Front
pub mod Laws
pub mod Names
pub mod Points
pub mod Reading
