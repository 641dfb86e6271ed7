pub mod Filed
pub mod Links
pub mod State
