pub mod Nets
pub mod Formed
pub mod Allowed
pub mod Index
pub mod Names
pub mod Seen
pub mod Tallies
pub mod Kept
pub mod Changes
pub mod Total
pub mod Order
pub mod Window
pub mod Fresh
pub mod Plain
-- what private functions alone cite
pub mod NewRows
pub mod Behind
pub mod Searching
