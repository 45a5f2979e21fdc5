pub mod Asked
pub mod Search
-- what private functions alone cite
pub mod First
pub mod Known
pub mod Marks
pub mod Put
pub mod Way
