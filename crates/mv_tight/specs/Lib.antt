pub mod Tight
-- what private functions alone cite
pub mod Growing
