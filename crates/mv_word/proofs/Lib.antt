pub mod Fronts
pub mod Turns
pub mod Ranges
pub mod Saying
pub mod LawfulNames
pub mod Plain
