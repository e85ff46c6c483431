pub mod Room
pub mod Delivering
pub mod Ways
pub mod Taking
