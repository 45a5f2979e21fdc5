pub mod Counted
pub mod Fewer
pub mod Behind
pub mod Staying
pub mod Stepping
pub mod Searching
pub mod Merged
