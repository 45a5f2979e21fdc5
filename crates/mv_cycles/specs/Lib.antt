pub mod Cycles
-- what private functions alone cite
pub mod Ranks
pub mod Walking
