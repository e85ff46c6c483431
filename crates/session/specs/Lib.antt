pub mod Session
pub mod Caller
pub mod InPlace
pub mod Promise
