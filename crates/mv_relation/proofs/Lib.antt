pub mod Inserting
pub mod Ascending
pub mod Holding
pub mod Uniting
pub mod Covering
pub mod Relating
