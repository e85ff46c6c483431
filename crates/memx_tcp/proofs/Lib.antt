pub mod OfTypes
pub mod Laid
pub mod Every
pub mod OneByte
pub mod Stored
pub mod Framing
pub mod Verdicts
pub mod Exact
pub mod Order
pub mod Letters
pub mod Numbers
pub mod Specimen
mod Settled
