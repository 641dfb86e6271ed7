pub mod JobLaws
pub mod ReadLaws
pub mod ServeLaws
