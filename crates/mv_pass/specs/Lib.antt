pub mod Courses
pub mod Going
pub mod Taking
pub mod Passing
pub mod Ending
