-- nets that come to stand for another, whatever their tables are
pub mod Choices
pub mod Coming
pub mod Standing
pub mod Grown
pub mod StandFormed
pub mod StandMeans
pub mod StandTotal
-- the nets of the bits
pub mod CodeValues
pub mod BitNets
pub mod Coded
pub mod Behind
pub mod Changing
