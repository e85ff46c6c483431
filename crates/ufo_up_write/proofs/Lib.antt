pub mod UpLaid
pub mod UpReplies
mod Settled
