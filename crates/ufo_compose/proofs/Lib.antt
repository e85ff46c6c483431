pub mod Behind
pub mod Adding
pub mod Composed
mod Given
mod Settled
