pub mod Meaning
mod Settled
