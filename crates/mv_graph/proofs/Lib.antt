pub mod Nets
pub mod Columns
pub mod Paths
pub mod Ranks
pub mod Transposes
pub mod Waiting
pub mod Clear
pub mod Finished
