pub mod Relations
-- what private functions alone cite
pub mod Placing
