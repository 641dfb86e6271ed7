pub mod GraceLaws
pub mod ReclaimantLaws
