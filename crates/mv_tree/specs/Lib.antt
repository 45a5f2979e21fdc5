pub mod Tree
pub mod Places
pub mod Unfolded
pub mod Meaning
pub mod Bound
