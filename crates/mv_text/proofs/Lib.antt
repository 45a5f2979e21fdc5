pub mod Outputs
mod Opening
pub mod Resets
