pub mod Places
pub mod Kept
pub mod Reached
-- what private functions alone cite
pub mod Walks
