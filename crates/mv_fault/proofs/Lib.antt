pub mod Firsts
pub mod Nothing
