pub mod FileReading
pub mod LexedFiles
-- what private functions alone cite
pub mod Pieces
pub mod LexedPieces
