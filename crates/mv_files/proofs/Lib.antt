pub mod FileReads
pub mod LexedReads
pub mod Texts
pub mod Stills
pub mod Contents
