pub mod Single
pub mod Apart
pub mod Running
pub mod Seeking
pub mod Walking
pub mod Exactly
pub mod Few
mod Settled
