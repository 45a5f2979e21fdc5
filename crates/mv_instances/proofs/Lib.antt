pub mod Cuts
pub mod Lawful
pub mod Accepted
