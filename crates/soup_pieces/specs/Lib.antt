pub mod Machine
pub mod Eating
pub mod Closing
pub mod Calling
pub mod Searching
