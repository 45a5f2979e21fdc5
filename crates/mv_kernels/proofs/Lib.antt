pub mod Lists
pub mod Orders
pub mod Quotients
pub mod Steps
pub mod Walks
