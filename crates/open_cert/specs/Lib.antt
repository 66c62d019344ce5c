pub mod Certs
pub mod Made
pub mod Laws
