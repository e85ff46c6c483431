pub mod Areas
pub mod Bitmap
pub mod Each
pub mod Bits
pub mod Going
pub mod Hangs
pub mod Holds
pub mod Letting
pub mod Releases
mod Settled
mod Trying
