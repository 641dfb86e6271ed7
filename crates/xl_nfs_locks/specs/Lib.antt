pub mod Ranges
pub mod Checks
pub mod Releases
pub mod Unlocks
pub mod Denials
pub mod Tests
pub mod Locks
pub mod FirstLocks
