pub mod Divisors
pub mod Divided
