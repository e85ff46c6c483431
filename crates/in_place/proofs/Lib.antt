pub mod Storing
mod Settled
