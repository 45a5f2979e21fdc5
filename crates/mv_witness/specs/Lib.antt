pub mod Commons
-- what private functions alone cite
pub mod Ready
