pub mod Asks
mod Settled
pub mod Order
