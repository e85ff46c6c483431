pub mod Fields
pub mod Checks
pub mod Reply
pub mod Datagram
pub mod Refusals
