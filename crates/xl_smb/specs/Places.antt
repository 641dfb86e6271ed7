-- What stands at a place of a frame or a body. Numbers are little-endian (MS-SMB2 2.2).
pub use Rattle.xl_layout.specs.Places.{joined, zeros}
