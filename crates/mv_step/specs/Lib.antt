pub mod Sets
pub mod Lines
pub mod Certificates
pub mod Printed
-- what private functions alone cite
pub mod Reading
