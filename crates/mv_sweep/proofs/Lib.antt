pub mod Search
pub mod Stepping
pub mod Swept
