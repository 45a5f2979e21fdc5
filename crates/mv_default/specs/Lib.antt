pub mod Taken
-- what private functions alone cite
pub mod Summing
