pub mod NumberLines
pub mod Networks
pub mod Settings
pub mod Replacing
pub mod BlifReplacing
pub mod Lawful
