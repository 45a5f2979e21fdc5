pub mod Values
pub mod Tables
pub mod Nets
pub mod Verdicts
-- what private functions alone cite
pub mod Changes
