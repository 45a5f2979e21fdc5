pub mod Values
pub mod Short
pub mod Tables
pub mod ByLine
pub mod Nets
pub mod Proper
pub mod Meaning
