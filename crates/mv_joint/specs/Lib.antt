pub mod OutRows
pub mod Split
pub mod Plain
pub mod Joint
pub mod Meaning
-- what private functions alone cite
pub mod Lawful
pub mod Gather
pub mod Looks
