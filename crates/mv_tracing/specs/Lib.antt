pub mod RunFiles
pub mod Traced
-- what private functions alone cite
pub mod Giving
pub mod Steps
