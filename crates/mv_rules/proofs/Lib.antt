mod Rows
pub mod OneAnswer
pub mod Meanings
pub mod Kept
pub mod Replayed
pub mod Spoken
pub mod Strict
pub mod Staying
pub mod Nodes
mod Left
pub mod Partials
