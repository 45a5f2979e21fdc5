pub mod Doing
pub mod Replacing
pub mod Tracing
pub mod Again
