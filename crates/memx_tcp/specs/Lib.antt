pub mod Types
pub mod Layout
pub mod Packet
pub mod Read
pub mod Reading
pub mod Writing
