pub mod Causes
pub mod Replayed
