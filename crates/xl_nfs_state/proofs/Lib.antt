pub mod AnyLaws
pub mod FiledLaws
pub mod ResultMapLaws
pub mod ListingLaws
pub mod SoundLaws
