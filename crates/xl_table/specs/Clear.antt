-- Ranges that have no byte in common, so that neither blocks the other.
use Rattle.std.specs.Prelude.{ℕ, Bool, false, ◌||◌, nat_lt}
use Rattle.xl_matrix.specs.declared.claim.Extent.TheVariants.{Bytes}
use Rattle.xl_matrix.specs.declared.claim.What.{What}
use Rattle.xl_matrix.specs.declared.claim.What.TheVariants.{Range}

-- a range with bytes is claimed that has none of these
abbrev pub lies_apart : ℕ → ℕ → What → Bool
lies_apart first last (Range (Bytes start end) exclusive) = nat_lt end first || nat_lt last start
lies_apart first last _ = false

-- a range with bytes is asked, and the held one has none of them
abbrev pub is_clear : What → What → Bool
is_clear (Range (Bytes first last) exclusive) held = lies_apart first last held
is_clear _ held = false
