pub mod Binary
pub mod Firsts
pub mod Refused
pub mod Visited
pub mod Ended
