pub mod Contents
pub mod Walks
pub mod Endings
pub mod Building
pub mod Telling
