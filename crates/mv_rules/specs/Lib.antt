pub mod Applies
pub mod Replaying
pub mod Staying
