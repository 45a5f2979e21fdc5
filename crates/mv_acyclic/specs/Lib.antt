pub mod Sound
pub mod Numbers
pub mod Glance
-- what private functions alone cite
pub mod Driving
pub mod Columns
pub mod Alone
