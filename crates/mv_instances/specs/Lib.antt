pub mod Binding
pub mod Line
