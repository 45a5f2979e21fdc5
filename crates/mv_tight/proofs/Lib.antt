pub mod Putting
pub mod Some
pub mod Growth
pub mod Lawful
pub mod Made
