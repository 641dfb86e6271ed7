pub mod CaptureLaws
pub mod EnterLaws
pub mod ReplayLaws
