pub mod Numbers
pub mod Values
pub mod Marked
pub mod Building
pub mod Shaped
pub mod Encoded
pub mod Images
pub mod Lawful
