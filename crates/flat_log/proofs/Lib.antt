pub mod FlatAndBack
pub mod Settled
