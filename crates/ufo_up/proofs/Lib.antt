pub mod Limits
pub mod Order
pub mod UpMessage
pub mod UpWalk
pub mod UpPacket
pub mod UpExactOne
pub mod Nameless
pub mod Exact
pub mod UpInTurn
mod UpFinding
pub mod UpOne
pub mod UpLonger
mod Settled
