pub mod Words
pub mod Ports
pub mod Latches
