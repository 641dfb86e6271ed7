pub mod FrameLaws
pub mod Growth
pub mod RecordLaws
pub mod StreamLaws
