pub mod Said
pub mod Rows
pub mod Model
pub mod Alike
pub mod Back
