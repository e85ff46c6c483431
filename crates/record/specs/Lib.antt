pub mod Record
pub mod Standing
