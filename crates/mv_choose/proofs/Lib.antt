pub mod Determinized
pub mod Taking
pub mod Ended
