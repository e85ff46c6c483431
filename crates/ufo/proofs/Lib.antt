pub mod Order
pub mod DownLaid
pub mod DownTaken
pub mod Exact
pub mod DownMessages
mod Settled
