pub mod Simplifies
-- what private functions alone cite
pub mod Simplifying
