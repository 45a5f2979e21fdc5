pub mod Eliminates
-- what private functions alone cite
pub mod Eliminating
