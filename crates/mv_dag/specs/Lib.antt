pub mod Rows
pub mod Ordered
-- what private functions alone cite
pub mod Dag
pub mod Searches
pub mod Finding
pub mod Moves
pub mod Readers
pub mod Changing
pub mod Growing
