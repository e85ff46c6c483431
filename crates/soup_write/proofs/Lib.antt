pub mod Laying
pub mod Sending
pub mod Nameless
mod Settled
