pub mod LinesFrom
pub mod Ends
pub mod Words
pub mod Lists
pub mod Spaced
pub mod Comments
pub mod Written
pub mod Apart
