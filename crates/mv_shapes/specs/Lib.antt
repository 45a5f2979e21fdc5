pub mod Rows
-- what private functions alone cite
pub mod Distinct
pub mod Shape
pub mod Kept
