pub mod Opens
pub mod Knowns
pub mod Walks
pub mod Gathered
