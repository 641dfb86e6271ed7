pub mod Owners
pub mod Rights
pub mod Extents
pub mod Kinds
pub mod Equal
pub mod Matrix
pub mod Weaker
pub mod Blocks
