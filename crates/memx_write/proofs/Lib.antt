pub mod Extra
mod Settled
