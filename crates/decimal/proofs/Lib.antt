pub mod Digits
pub mod Powers
pub mod Written
pub mod Stored
pub mod Spaces
pub mod Ends
pub mod ReadAs
pub mod Noughts
mod Settled
