pub mod Opens
pub mod Parts
pub mod NamedRoots
pub mod Knowns
pub mod Narrows
pub mod Rooms
pub mod Walks
pub mod Values
