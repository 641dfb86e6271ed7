-- What a table of claims answers, on the flat list of its claims.
use Rattle.std.specs.Prelude.{ℕ, Bool, false, not, ◌&&◌, ◌||◌, ◌==◌, nat_le, List, [], ◌∷◌, Option, Some, None, if◌then◌else◌}
use Rattle.std.specs.List.{filter, list_any}
use Rattle.xl_base.specs.Leasts.{least_from}
use Rattle.xl_base.specs.Lists.{placed}
use Rattle.xl_base.specs.declared.event.Moment.{Moment}
use Rattle.xl_matrix.specs.declared.claim.Extent.TheVariants.{Bytes}
use Rattle.xl_matrix.specs.declared.claim.What.{What}
use Rattle.xl_matrix.specs.declared.claim.What.TheVariants.{Range, Cache}
use Rattle.xl_matrix.specs.declared.claim.Claim.{Claim}
use Rattle.xl_matrix.specs.Extents.{has_byte}
use Rattle.xl_matrix.specs.Equal.{same_claims}
pub use Rattle.xl_matrix.specs.Blocks.{is_replaced, is_own, is_met, is_met_by_own}
use Rattle.xl_matrix.specs.Blocks.{is_cache}
unfoldable pub use Rattle.xl_matrix.specs.Blocks.{blocks}
use Rattle.xl_table.specs.Order.{goes_first, no_later}

-- the claim at its place: behind all that stand no later
unfoldable pub inserted : Claim → List Claim → List Claim
inserted claim held = placed goes_first claim held

-- without the first claim equal to it (TABLE-5)
abbrev pub removed : Claim → List Claim → List Claim
removed claim [] = []
removed claim (c ∷ cs) = if same_claims c claim then cs else c ∷ removed claim cs

-- the claim with something else claimed
abbrev pub with_what : Claim → What → Claim
with_what claim to = record { file = claim.file; owner = claim.owner; party = claim.party; what = to }

-- the first equal one taken out, and the changed claim at its place (TABLE-5)
unfoldable pub changed : Claim → What → List Claim → List Claim
changed claim to held = inserted (with_what claim to) (removed claim held)

-- something held blocks the claim
abbrev pub is_blocked : List Claim → Claim → Bool
is_blocked held claim = list_any (λ c. blocks claim c) held

-- the held claim may stand in the ask's way: it blocks the ask, or is a cache on its file
abbrev pub may_obstruct : Claim → Claim → Bool
may_obstruct ask held = blocks ask held || ((held.file == ask.file) && is_cache held.what)

-- the claim's break runs, and its answer is due
abbrev pub due_by : What → ℕ → Bool
due_by (Cache kind (Some running)) now = nat_le running.deadline.0 now
due_by _ now = false

abbrev pub is_due : Moment → Claim → Bool
is_due now claim = due_by claim.what now.0

-- the claim is a range on this file that has the byte
abbrev pub locks_by : What → ℕ → Bool
locks_by (Range extent exclusive) byte = has_byte extent byte
locks_by _ byte = false

abbrev pub locks : ℕ → ℕ → Claim → Bool
locks file byte claim = (claim.file == file) && locks_by claim.what byte

-- how ranges are told apart: by the first byte, then the last, then exclusive before shared
abbrev pub range_key_by : What → List ℕ
range_key_by (Range (Bytes first last) exclusive) = first ∷ last ∷ (if exclusive then 0 else 1) ∷ []
range_key_by _ = 0 ∷ 0 ∷ 0 ∷ []

abbrev pub range_key : Claim → List ℕ
range_key claim = range_key_by claim.what

-- the first range comes before the second
abbrev pub comes_before : Claim → Claim → Bool
comes_before a b = not (no_later (range_key b) (range_key a))

-- the least of those that lock the byte, with the least so far
abbrev pub holder_from : Option Claim → ℕ → ℕ → List Claim → Option Claim
holder_from found file byte cs = least_from comes_before found (filter (locks file byte) cs)

-- the least range on the file that has the byte (TABLE-19)
unfoldable pub holder : ℕ → ℕ → List Claim → Option Claim
holder file byte held = holder_from None file byte held
