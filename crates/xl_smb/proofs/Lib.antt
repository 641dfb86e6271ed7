pub mod CompoundLaws
pub mod HeadLaws
pub mod LeaseLaws
pub mod MessageLaws
pub mod RelatedLaws
