pub mod Leaving
pub mod Refining
pub mod Cutting
pub mod Pairing
pub mod Choosing
