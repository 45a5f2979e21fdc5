pub mod Walk
pub mod Trees
pub mod Misfits
pub mod Commands
pub mod Steps
pub mod Openings
