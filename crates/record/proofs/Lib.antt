pub mod Begun
pub mod Hanging
pub mod Complete
pub mod Lacking
mod Settled
