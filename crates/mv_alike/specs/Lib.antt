pub mod Merges
-- what private functions alone cite
pub mod Given
pub mod Classes
pub mod Pairs
