pub mod Adding
pub mod Paging
pub mod Items
