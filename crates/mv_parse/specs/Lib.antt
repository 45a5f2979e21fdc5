pub mod Commands
pub mod Known
pub mod Grammar
-- what private functions alone cite
pub mod Steps
