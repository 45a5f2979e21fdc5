pub mod Resets
pub mod NetModels
pub mod Valued
