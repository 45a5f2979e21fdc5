pub mod Sources
pub mod Lines
pub mod Stages
pub mod Ends
pub mod Exact
pub mod Ending
pub mod Stops
