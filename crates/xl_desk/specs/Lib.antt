pub mod Due
pub mod Passes
pub mod Turns
