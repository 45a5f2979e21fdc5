pub mod Keeping
pub mod Agreeing
pub mod Eliminating
pub mod Stepping
pub mod Sighting
pub mod Giving
pub mod Joining
pub mod Proceeding
