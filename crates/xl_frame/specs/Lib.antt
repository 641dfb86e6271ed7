pub mod Cutting
pub mod Frames
pub mod Progress
pub mod Records
pub mod Shown
