pub mod Agenda
pub mod Near
-- what private functions alone cite
pub mod Around
