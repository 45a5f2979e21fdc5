pub mod Numbers
pub mod Columns
pub mod Rows
pub mod Fits
pub mod Spelled
pub mod Assigned
pub mod Lawful
pub mod AnswerTexts
