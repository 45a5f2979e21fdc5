mod Members
mod Spelling
mod Ascending
mod Walks
pub mod Lines
pub mod Parts
pub mod Held
mod Literals
