pub mod Outputs
pub mod Scripts
pub mod Optimised
pub mod Running
