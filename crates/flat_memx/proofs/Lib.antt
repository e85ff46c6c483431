pub mod Refusing
pub mod Extra
pub mod Round
mod Settled
