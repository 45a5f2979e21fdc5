pub mod Steps
pub mod Extracts
-- what private functions alone cite
pub mod Dividing
pub mod Keeping
