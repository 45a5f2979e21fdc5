pub mod Families
pub mod Leaving
pub mod Functions
pub mod Held
pub mod Rooms
-- what private functions alone cite
pub mod Seen
pub mod Results
