pub mod Packet
pub mod Read
pub mod Reading
pub mod Spelling
