pub mod Fills
-- what private functions alone cite
pub mod Filling
