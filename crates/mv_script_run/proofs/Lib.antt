pub mod Inductions
pub mod Idle
pub mod Rounds
pub mod Toward
pub mod Rules
pub mod NoMore
