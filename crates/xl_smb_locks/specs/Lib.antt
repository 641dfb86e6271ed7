pub mod Statuses
pub mod Short
pub mod Elements
pub mod Locks
pub mod Levels
pub mod Finals
pub mod Exactly
