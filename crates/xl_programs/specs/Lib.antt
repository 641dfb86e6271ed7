pub mod Programs
pub mod Sent
