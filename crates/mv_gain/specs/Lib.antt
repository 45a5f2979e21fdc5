pub mod Savings
-- what is kept, which a command passes on from net to net
pub mod Sums
pub mod Pairs
pub mod Kept
-- what private functions alone cite
pub mod Judging
