pub mod Encodes
-- what private functions alone cite
pub mod Encoding
