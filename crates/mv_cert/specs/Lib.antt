pub mod Replay
pub mod Certificates
