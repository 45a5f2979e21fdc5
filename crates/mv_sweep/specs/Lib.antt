pub mod Drops
pub mod Sweeps
-- what private functions alone cite
pub mod Search
pub mod Ways
