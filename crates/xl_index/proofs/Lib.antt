pub mod PartedLaws
pub mod TotalLaws
pub mod MomentLaws
pub mod StandLaws
pub mod NextLaws
pub mod IndexLaws
