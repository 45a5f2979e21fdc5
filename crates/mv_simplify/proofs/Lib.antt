pub mod Simplified
pub mod Taking
