pub mod Frames
pub mod Steps
pub mod Answers
pub mod Waking
