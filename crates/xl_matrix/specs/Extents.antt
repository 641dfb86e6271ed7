-- Where ranges lie, by bytes (RFC 7530 16.10; of ranges without a byte MS-FSA 2.1.4.10).
use Rattle.std.specs.Prelude.{ℕ, Bool, false, ◌&&◌, ◌==◌, nat_le, nat_lt, min, max}
use Rattle.xl_matrix.specs.declared.claim.Extent.{Extent}
use Rattle.xl_matrix.specs.declared.claim.Extent.TheVariants.{Bytes, Empty}

-- the byte is in the range; an empty range has none
abbrev pub has_byte : Extent → ℕ → Bool
has_byte (Bytes first last) byte = nat_le first byte && nat_le byte last
has_byte (Empty offset) byte = false

-- both the byte before the offset and the byte at it are in the range; at offset 0 there is none before
abbrev pub has_both_sides : Extent → ℕ → Bool
has_both_sides (Bytes first last) offset = nat_lt first offset && nat_le offset last
has_both_sides (Empty at) offset = false

-- two ranges meet: if they have a common byte, or if both are SMB ranges and one of them is empty and lies between
-- two bytes of the other (CLAIM-3)
abbrev pub meeting : Bool → Extent → Extent → Bool
meeting smb (Bytes first last) (Bytes start end) = nat_le (max first start) (min last end)
meeting smb (Bytes first last) (Empty offset) = smb && has_both_sides (Bytes first last) offset
meeting smb (Empty offset) (Bytes first last) = smb && has_both_sides (Bytes first last) offset
meeting smb (Empty offset) (Empty at) = false

-- the bytes of the first are bytes of the second; an empty range lies within itself alone (CLAIM-5)
abbrev pub lies_in : Extent → Extent → Bool
lies_in (Bytes first last) (Bytes start end) = nat_le start first && nat_le last end
lies_in (Empty offset) (Empty at) = offset == at
lies_in _ _ = false
