pub mod Collapses
-- what private functions alone cite
pub mod Reasons
