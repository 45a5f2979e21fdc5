pub mod Division
pub mod Numbers
pub mod Tables
-- what private functions alone cite
pub mod Found
pub mod Grouped
