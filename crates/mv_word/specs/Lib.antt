pub mod Entries
pub mod Says
pub mod Plain
