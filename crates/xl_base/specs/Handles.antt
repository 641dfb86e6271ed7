-- File handles: opaque to clients (RFC 7530 4.2.1, XNFS C702), here a mark and the file's number.
use Rattle.std.specs.Prelude.{ℕ, ◌==◌, ◌&&◌, if◌then◌else◌, List, ◌++◌, length, take, drop, codes, bytes_eq, Option, Some, None}
use Rattle.std.specs.Int.{w32, to_be_bytes, from_be_bytes}

-- the handle of a file, 0 for the root (WIRE-1)
abbrev pub handle : ℕ → List ℕ
handle file = codes "XLK1" ++ to_be_bytes w32 file

-- the file's number in a handle
unfoldable pub file_at : List ℕ → Option ℕ
file_at bytes = if length bytes == 8 && bytes_eq (take 4 bytes) (codes "XLK1") then Some (from_be_bytes w32 (drop 4 bytes)) else None
