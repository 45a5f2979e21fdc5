pub mod Windows
pub mod Judging
pub mod OneWindow
pub mod Less
mod OverFanins
