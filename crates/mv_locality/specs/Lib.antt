pub mod Local
pub mod Same
