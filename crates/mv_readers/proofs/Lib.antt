pub mod Overs
pub mod Readers
