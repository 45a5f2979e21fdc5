pub mod Meets
-- what private functions alone cite
pub mod Groups
pub mod Search
