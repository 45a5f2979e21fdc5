pub mod Nets
pub mod Line
pub mod Plain
