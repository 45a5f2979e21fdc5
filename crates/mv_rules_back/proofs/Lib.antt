pub mod Short
pub mod Plain
pub mod Sayable
pub mod Printing
pub mod Replaying
