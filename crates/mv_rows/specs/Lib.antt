pub mod Cubes
pub mod Lines
pub mod Flat
pub mod Many
pub mod Covers
pub mod Marked
pub mod Renumbered
pub mod Once
pub mod Named
-- what private functions alone cite
pub mod Columns
pub mod Meeting
pub mod Single
