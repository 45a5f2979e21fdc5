pub mod Codes
pub mod CodeCubes
pub mod Tables
pub mod Rewriting
pub mod Wide
