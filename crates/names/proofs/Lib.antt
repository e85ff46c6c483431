pub mod Packing
mod Settled
