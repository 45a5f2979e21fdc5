pub mod Tabled
pub mod Points
pub mod Lesser
pub mod Visited
