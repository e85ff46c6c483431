pub mod ByNumber
pub mod Flags
pub mod Flattening
pub mod Outcomes
pub mod Settled
