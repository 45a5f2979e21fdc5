pub mod FilledNets
pub mod Filled
pub mod Unfilled
pub mod Marking
pub mod Strict
