pub mod Missing
pub mod Runs
