pub mod Gains
pub mod Candidates
-- what private functions alone cite
pub mod Grown
pub mod Holders
pub mod Tables
pub mod Kernels
pub mod Cubes
pub mod Best
pub mod Known
pub mod Leading
pub mod Renewing
pub mod Answers
