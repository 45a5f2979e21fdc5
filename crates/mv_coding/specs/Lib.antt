pub mod Nets
-- what private functions alone cite
pub mod Changes
