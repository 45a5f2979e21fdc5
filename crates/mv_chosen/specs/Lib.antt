pub mod Chosen
pub mod Binary
pub mod Written
