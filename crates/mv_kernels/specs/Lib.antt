pub mod Symbols
pub mod Order
pub mod Kernels
pub mod Equal
pub mod Keys
-- what private functions alone cite
pub mod Below
