pub mod Told
pub mod Takes
pub mod Works
