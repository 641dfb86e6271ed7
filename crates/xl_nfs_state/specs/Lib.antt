pub mod Alike
pub mod Bytes
pub mod Filed
pub mod Keys
pub mod Rows
pub mod State
pub mod Verdict
