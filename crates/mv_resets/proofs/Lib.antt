pub mod ByLine
pub mod Words
pub mod Nets
pub mod Values
pub mod NetModels
pub mod SoundNets
pub mod Valued
pub mod Same
