pub mod Upto
pub mod Rounding
pub mod Sound
pub mod Waits
pub mod Never
pub mod Specimen
mod Settled
