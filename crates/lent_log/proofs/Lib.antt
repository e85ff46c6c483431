pub mod Passes
pub mod Hanging
pub mod Adding
pub mod Entering
pub mod Many
pub mod InTurn
mod Settled
pub mod Order
