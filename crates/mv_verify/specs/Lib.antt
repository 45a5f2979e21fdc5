pub mod Answers
pub mod Sizes
pub mod Texts
-- what private functions alone cite
pub mod Sides
pub mod Prefixes
pub mod Evidence
