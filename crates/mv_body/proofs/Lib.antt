pub mod Numbers
pub mod Orders
pub mod Lines
pub mod Tidying
