-- What is held byte by byte of a range, once it is locked or unlocked.
use Rattle.std.specs.Prelude.{◌≡◌, ℕ, Bool, ◌&&◌, if◌then◌else◌, List, [], ◌∷◌}
use Rattle.xl_base.specs.declared.name.Owner.{Owner}
use Rattle.xl_matrix.specs.declared.claim.Claim.{Claim}
use Rattle.xl_matrix.specs.declared.claim.Extent.TheVariants.{Bytes}
use Rattle.xl_matrix.specs.declared.claim.What.{What}
use Rattle.xl_matrix.specs.declared.claim.What.TheVariants as whats
use Rattle.xl_spans.specs.Spans.{within}
use Rattle.xl_table.specs.Held.{is_of}
use Rattle.xl_core.specs.Places.{ByteOf, held_at}
use Rattle.xl_core.specs.State.{CoreState}

-- the lock of that byte
abbrev pub byte_lock : Bool → ℕ → List What
byte_lock exclusive byte = whats.Range (Bytes byte byte) exclusive ∷ []

-- no lock of it
abbrev pub no_lock : ℕ → List What
no_lock byte = []

-- at each byte from the first to the last this is held by the claim's owner on its file, and what was held before at each
-- other byte, by each other owner and on each other file
abbrev pub AreBytes : Claim → ℕ → ℕ → (ℕ → List What) → CoreState → CoreState → Type 0
AreBytes c first last has s t =
    (file : ℕ) (owner : Owner) (byte : ℕ) → held_at t (ByteOf file owner byte) ≡ (if is_of file owner c && within first last byte then has byte else held_at s (ByteOf file owner byte))
