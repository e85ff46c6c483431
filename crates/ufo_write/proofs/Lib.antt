pub mod DownReplies
pub mod DownLawful
mod Settled
