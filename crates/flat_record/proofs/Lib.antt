pub mod Complete
pub mod Ranges
pub mod FlatAndBack
pub mod Rules
pub mod Settled
