pub mod Sums
pub mod Counting
pub mod Covers
pub mod Single
