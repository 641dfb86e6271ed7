pub mod Captures
pub mod Enter
pub mod Replays
