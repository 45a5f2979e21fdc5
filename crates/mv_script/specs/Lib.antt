pub mod Texts
pub mod Numbers
pub mod Commands
pub mod Reading
pub mod Scripts
pub mod Parts
pub mod Grammar
pub mod Faults
-- what private functions alone cite
pub mod Private
pub mod Copies
