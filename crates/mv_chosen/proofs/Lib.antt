pub mod Picking
pub mod Settling
pub mod Resets
pub mod Choosing
pub mod Binary
pub mod OneChoice
pub mod Written
