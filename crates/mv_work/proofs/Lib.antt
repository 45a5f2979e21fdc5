pub mod Draws
pub mod NameSteps
pub mod RowSteps
pub mod TableSteps
pub mod SummaryLines
