pub mod Width
pub mod Eight
pub mod Checks
pub mod Numbered
pub mod Settling
pub mod Tests
pub mod Outcomes
mod Settled
