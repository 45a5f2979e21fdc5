pub mod Covered
pub mod Ranks
pub mod Walks
