pub mod Inside
pub mod Composite
pub mod Wide
pub mod Wired
pub mod Puts
pub mod Weights
pub mod Takers
pub mod TakerLaws
