pub mod Commands
pub mod Faults
pub mod Heads
pub mod Rows
pub mod Latches
pub mod Tables
