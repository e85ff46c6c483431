pub mod Milliseconds
pub mod Sheet
pub mod Patience
