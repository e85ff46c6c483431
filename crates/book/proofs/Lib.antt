pub mod Stories
pub mod Claim
