pub mod Refusing
pub mod Unfitting
pub mod Round
pub mod ByNumber
mod Settled
