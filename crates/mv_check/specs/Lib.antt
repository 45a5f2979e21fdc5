pub mod Tellings
pub mod Certificates
pub mod Checked
