pub mod NextBlock
pub mod Found
pub mod Frames
pub mod Places
pub mod Cutting
pub mod Joining
pub mod Filling
pub mod Skipping
pub mod Counting
mod Settled
