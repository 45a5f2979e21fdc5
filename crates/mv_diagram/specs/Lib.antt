pub mod Links
pub mod Sets
pub mod Sound
pub mod Results
pub mod Diagrams
pub mod Whole
pub mod Quantified
pub mod Parts
pub mod Cubes
pub mod Choices
pub mod Found
-- what private functions alone cite
pub mod Works
pub mod First
pub mod Roots
