pub mod Flex
pub mod Flexibilities
pub mod Left
-- what private functions alone cite, and of the public definitions `IsFlex`
pub mod Spaces
pub mod Plans
pub mod Truths
pub mod Checks
pub mod Places
