pub mod Faultless
pub mod Tables
pub mod Latches
pub mod Ports
pub mod Order
pub mod Proper
