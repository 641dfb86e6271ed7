pub mod EqualLaws
pub mod SideLaws
pub mod ByteLaws
pub mod WeakerLaws
pub mod PartLaws
pub mod OrderLaws
