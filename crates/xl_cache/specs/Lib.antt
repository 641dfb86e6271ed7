pub mod Targets
pub mod BreakPlans
pub mod Holders
pub mod Parties
pub mod Wishing
pub mod Levels
