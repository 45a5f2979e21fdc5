pub mod Places
pub mod Numbers
pub mod Covers
pub mod Built
pub mod Size
pub mod Flat
-- what private functions alone cite
pub mod Gathered
pub mod Values
pub mod Marks
pub mod Placed
pub mod Sized
pub mod Shared
pub mod Roots
