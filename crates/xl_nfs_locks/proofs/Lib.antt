pub mod LockLaws
pub mod FirstLaws
pub mod EndLaws
