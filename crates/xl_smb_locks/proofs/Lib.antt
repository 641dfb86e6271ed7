pub mod LeaveLaws
pub mod FitLaws
pub mod PlainLaws
pub mod UnlockLaws
pub mod FinalLaws
pub mod OnLaws
pub mod NoticeLaws
pub mod LevelLaws
pub mod LockLaws
mod ExactLaws
