pub mod Formats
pub mod Lines
pub mod Faults
pub mod Texts
pub mod BlifMv
pub mod Blif
pub mod Chosen
-- what private functions alone cite
pub mod Causes
