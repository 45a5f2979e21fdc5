pub mod Rewriting
pub mod Narrowing
