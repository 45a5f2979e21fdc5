pub mod Words
pub mod Cuts
pub mod Lines
pub mod Text
pub mod Reading
-- what private functions alone cite
pub mod Steps
