pub mod Places
pub mod Ended
pub mod Lines
pub mod Outputs
