pub mod Unions
pub mod Bracketed
pub mod Refusals
pub mod Written
pub mod Listed
