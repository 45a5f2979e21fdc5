pub mod Drawing
pub mod Work
pub mod Summing
