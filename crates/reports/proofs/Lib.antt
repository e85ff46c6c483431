pub mod Reports
pub mod Opening
pub mod Order
pub mod Whose
pub mod Skipped
mod Settled
