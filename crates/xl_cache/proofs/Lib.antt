pub mod TargetLaws
pub mod LevelLaws
pub mod HolderLaws
pub mod BreakPlanLaws
pub mod BreakLaws
pub mod WishLaws
pub mod PartyLaws
