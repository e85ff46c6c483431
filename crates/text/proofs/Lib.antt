pub mod Alphabet
pub mod Padding
pub mod Textual
mod Settled
