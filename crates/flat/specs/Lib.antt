pub mod Block
pub mod Flag
pub mod Wrote
