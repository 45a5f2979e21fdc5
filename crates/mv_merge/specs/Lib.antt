pub mod Merges
-- what private functions alone cite
pub mod Search
