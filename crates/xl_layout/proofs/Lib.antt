pub mod PlaceLaws
pub mod LayoutLaws
pub mod FormLaws
