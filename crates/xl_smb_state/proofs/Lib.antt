pub mod FiledLaws
pub mod RowLaws
pub mod StandingLaws
pub mod LinkLaws
pub mod LeaseLaws
pub mod WalkLaws
