pub mod Refused
pub mod OneNetwork
