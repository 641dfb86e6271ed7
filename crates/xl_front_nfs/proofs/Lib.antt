pub mod EndingLaws
pub mod RowLaws
pub mod ClientLaws
pub mod PlanLaws
pub mod CourseLaws
pub mod ReplyLaws
pub mod StepLaws
