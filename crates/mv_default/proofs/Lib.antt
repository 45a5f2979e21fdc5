pub mod Parted
pub mod Summed
pub mod Taken
