pub mod CommandLine
pub mod Answers
pub mod Given
pub mod Commands
