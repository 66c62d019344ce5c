mod Binomial
mod Computed
mod Divisors
mod Euclid
mod Fermat
pub mod FieldLaws
mod Modulus
mod Pocklington
mod Powers
mod Trial
pub mod Totals
