pub mod Round
pub mod Specimen
mod Settled
