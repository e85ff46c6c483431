pub mod Fitting
pub mod Packets
