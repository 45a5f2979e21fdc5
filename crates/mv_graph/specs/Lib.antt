pub mod Nets
pub mod Above
pub mod Orders
pub mod Transpose
-- what private functions alone cite
pub mod Marks
pub mod Sorting
pub mod Transposing
