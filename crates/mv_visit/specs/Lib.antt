pub mod Visits
-- what private functions alone cite
pub mod Lessening
