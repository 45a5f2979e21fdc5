pub mod Looks
pub mod Given
pub mod Settled
pub mod Strict
pub mod Carried
pub mod Replayed
