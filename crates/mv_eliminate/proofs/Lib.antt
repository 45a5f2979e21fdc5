mod WideNotes
pub mod Eliminated
