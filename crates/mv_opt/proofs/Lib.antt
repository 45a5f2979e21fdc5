pub mod Works
pub mod Takes
