pub mod Header
pub mod Verdicts
pub mod Told
pub mod Types
pub mod Taken
pub mod Exact
pub mod Carried
pub mod Order
pub mod Limits
pub mod Specimen
mod Settled
