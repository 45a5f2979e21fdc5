mod Lists
mod Joins
mod Parts
mod Tables
mod Expansion
mod Covers
mod Paths
mod Totality
pub mod Adding
pub mod Applying
pub mod Counting
