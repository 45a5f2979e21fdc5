pub mod Verdicts
-- what private functions alone cite
pub mod Answers
