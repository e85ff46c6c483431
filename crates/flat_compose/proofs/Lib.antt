pub mod Refusing
mod Behind
mod Settled
