pub mod Named
pub mod Removed
pub mod Added
pub mod Wired
pub mod Collapsed
pub mod CompositeLiterals
pub mod Divided
mod Ahead
mod Ordered
mod Expanded
mod Completed
mod Found
pub mod Filled
pub mod Narrowed
pub mod Merged
pub mod Encoded
