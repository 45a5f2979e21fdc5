pub mod Runs
pub mod Allowed
pub mod Given
pub mod Told
pub mod Answer
