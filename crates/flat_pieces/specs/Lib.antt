pub mod Taking
pub mod Laying
pub mod Calling
