pub mod Joining
pub mod Placing
pub mod Dividing
pub mod Grouping
pub mod Products
pub mod Leaving
pub mod Standing
