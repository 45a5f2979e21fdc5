pub mod Families
pub mod Windows
pub mod Outsides
pub mod Wides
-- what private functions alone cite
pub mod Inners
pub mod Plans
pub mod Choosing
pub mod Judging
