mod Summed
mod Entries
mod Rows
mod Forgetting
pub mod Behind
mod Right
pub mod Going
mod Around
mod Judged
mod Over
