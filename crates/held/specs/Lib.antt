pub mod Slots
pub mod Hanging
pub mod Holding
pub mod Releasing
