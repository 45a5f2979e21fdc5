pub mod Known
pub mod Grammar
pub mod Meaning
-- what private functions alone cite
pub mod Steps
