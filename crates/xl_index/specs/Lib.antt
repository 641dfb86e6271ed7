pub mod Totals
pub mod Parted
pub mod Moments
pub mod Stands
pub mod Index
