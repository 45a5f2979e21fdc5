pub mod Texts
pub mod Members
pub mod Visible
pub mod Printing
