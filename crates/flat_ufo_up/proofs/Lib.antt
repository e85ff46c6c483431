pub mod Counting
pub mod Refusing
pub mod Round
mod Settled
