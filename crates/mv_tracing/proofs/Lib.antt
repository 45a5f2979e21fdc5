pub mod Told
pub mod Takes
pub mod Giving
pub mod Steps
pub mod Works
