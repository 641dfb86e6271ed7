-- A file's claims in pages, so that a change moves no more than a page.
use Rattle.std.specs.Prelude.{◌≡◌, ℕ, zero, suc, ◌-◌, ◌≤◌, ◌<◌, Bool, true, false, ◌&&◌, ◌||◌, List, [], ◌∷◌, ◌++◌, length, Option, Some, None}
use Rattle.std.specs.List.{AllByRecursion, list_any, prefix_len, remove, slice_get}
use Rattle.xl_base.specs.declared.name.Owner.{Owner}
use Rattle.xl_matrix.specs.declared.claim.Claim.{Claim}
use Rattle.xl_matrix.specs.Equal.{same_claims}
use Rattle.xl_table.specs.Flat.{removed}
use Rattle.xl_spans.specs.Spans.{meets}
use Rattle.xl_table.specs.Held.{is_of, is_range, with_span}
use Rattle.xl_table.specs.declared.marks.Mark.{Mark}
use Rattle.xl_table.specs.declared.marks.Mark.TheVariants.{Before, Upto, Ending, Beginning}
use Rattle.xl_table.specs.declared.ordering.Side.{Side}
use Rattle.xl_table.specs.declared.ordering.Side.TheVariants.{Earlier, Among, Later}
use Rattle.xl_table.specs.Sections.{is_before, is_upto, range_ends_before, range_begins_by}

-- the claims of all pages, one behind another
abbrev pub paged : List (List Claim) → List Claim
paged [] = []
paged (p ∷ ps) = p ++ paged ps

-- no page is without claims
abbrev pub AreFull : List (List Claim) → Type 0
AreFull ps = AllByRecursion (λ p. 0 < length p) ps

-- a claim passes a mark: it stands before those whose numbers begin with these; or at most among them; or is a range
-- among them that ends before a byte, or begins by the byte past this one
abbrev pub passes : Mark → List ℕ → Claim → Bool
passes Before front c = is_before front c
passes Upto front c = is_upto front c
passes (Ending byte) front c = is_before front c || is_upto front c && range_ends_before byte c.what
passes (Beginning byte) front c = is_before front c || is_upto front c && range_begins_by byte c.what

-- the same by the side on which a claim's numbers stand of those that begin with some
abbrev pub passes_side : Mark → Side → Claim → Bool
passes_side mark Earlier c = true
passes_side mark Later c = false
passes_side Before Among c = false
passes_side Upto Among c = true
passes_side (Ending byte) Among c = range_ends_before byte c.what
passes_side (Beginning byte) Among c = range_begins_by byte c.what

-- the last of a page's claims passes
abbrev pub passes_there : (Claim → Bool) → Option Claim → Bool
passes_there p None = true
passes_there p (Some c) = p c

abbrev pub ends : (Claim → Bool) → List Claim → Bool
ends p page = passes_there p (slice_get page (length page - 1))

-- how many claims of the page at this place pass
abbrev pub count_at : (Claim → Bool) → List (List Claim) → ℕ → ℕ
count_at p [] at = 0
count_at p (q ∷ qs) zero = prefix_len p q
count_at p (q ∷ qs) (suc at) = count_at p qs at

-- the page at this place has no more claims than so many; or it has more
abbrev pub IsBehind : ℕ → ℕ → List (List Claim) → Type 0
IsBehind at left [] = ⊥
IsBehind zero left (p ∷ ps) = length p ≤ left
IsBehind (suc at) left (p ∷ ps) = IsBehind at left ps

abbrev pub IsInside : ℕ → ℕ → List (List Claim) → Type 0
IsInside at left [] = ⊥
IsInside zero left (p ∷ ps) = left < length p
IsInside (suc at) left (p ∷ ps) = IsInside at left ps

-- or so many, or more
abbrev pub IsThere : ℕ → ℕ → List (List Claim) → Type 0
IsThere at left [] = ⊥
IsThere zero left (p ∷ ps) = left ≤ length p
IsThere (suc at) left (p ∷ ps) = IsThere at left ps

-- no page except this one is without claims
abbrev pub IsFullBut : ℕ → List (List Claim) → Type 0
IsFullBut at [] = Unit {0}
IsFullBut zero (p ∷ ps) = AreFull ps
IsFullBut (suc at) (p ∷ ps) = (0 < length p) × IsFullBut at ps

-- claims were moved one by one, each over its neighbour: except for the one at a place, which is counted twice or lost,
-- they are those that there were except for one
pub record IsShifting (from at : ℕ) (old now : List (List Claim)) : Type 0 where
  pub same : remove (paged now) at ≡ remove (paged old) from
  pub many : length (paged now) ≡ length (paged old)
  pub full : AreFull now

-- the claim is a range of the owner on the file, and has a byte of the range
abbrev pub is_met : ℕ → Owner → ℕ → ℕ → Claim → Bool
is_met file owner first last c = is_of file owner c && is_range c.what && list_any (meets first last) (with_span c.what [])

abbrev pub is_met_there : ℕ → Owner → ℕ → ℕ → Option Claim → Bool
is_met_there file owner first last None = false
is_met_there file owner first last (Some c) = is_met file owner first last c

-- the first claim equal to this one stands at the place
pub record IsFoundAt (claim : Claim) (place : ℕ) (cs : List Claim) : Type 0 where
  pub within : place < length cs
  pub held : list_any (λ c. same_claims c claim) cs ≡ true
  pub rest : removed claim cs ≡ remove cs place
