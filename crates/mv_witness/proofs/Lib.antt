pub mod Finding
pub mod Fixing
