pub mod Positions
pub mod Placing
pub mod Finding
pub mod Keeping
pub mod Walking
