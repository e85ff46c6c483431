pub mod Greatest
pub mod Measuring
pub mod Answering
pub mod Packing
pub mod Replies
pub mod Given
mod Settled
pub mod Order
pub mod Limits
