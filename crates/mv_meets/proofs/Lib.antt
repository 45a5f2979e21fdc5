pub mod Once
pub mod Places
pub mod Grouping
pub mod Pairs
pub mod Covering
pub mod Looking
pub mod Visiting
pub mod Spreading
