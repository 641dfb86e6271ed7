-- Between which bytes the ranges of a page lie.
use Rattle.std.specs.Prelude.{◌≡◌, ◌≤◌, ◌-◌, ◌^◌, Bool, true, false, not, ◌&&◌, ◌||◌, nat_lt, nat_le, min, max, List, [], ◌∷◌}
use Rattle.xl_matrix.specs.declared.claim.Claim.{Claim}
use Rattle.xl_matrix.specs.declared.claim.Extent.TheVariants.{Bytes}
use Rattle.xl_matrix.specs.declared.claim.What.{What}
use Rattle.xl_matrix.specs.declared.claim.What.TheVariants.{Range}
use Rattle.xl_table.specs.declared.bounds.Bounds.{Bounds}
use Rattle.std.specs.List.{AllByRecursion}
use Rattle.xl_table.specs.Due.{due_with, IsDueFrom}
use Rattle.xl_table.specs.Guard.{unguarded, guard_with, IsCounted, lets_by}

-- the bounds of no claims
abbrev pub unbounded : Bounds
unbounded = record { low = 2 ^ 64 - 1; high = 0; mixed = false; due = 2 ^ 64 - 1; guard = unguarded }

-- the bounds with one more claim
abbrev pub widened : Bounds → What → Bounds
widened b (Range (Bytes first last) exclusive) = record { low = min b.low first; high = max b.high last; mixed = b.mixed; due = b.due; guard = guard_with b.guard (Range (Bytes first last) exclusive) }
widened b w = record { low = b.low; high = b.high; mixed = true; due = due_with b.due w; guard = guard_with b.guard w }

abbrev pub bounds_from : Bounds → List Claim → Bounds
bounds_from b [] = b
bounds_from b (c ∷ cs) = bounds_from (widened b c.what) cs

-- the bounds of these claims
abbrev pub bounds_of : List Claim → Bounds
bounds_of cs = bounds_from unbounded cs

-- a range with bytes is asked, and none within these bounds has any of them (TABLE-12)
abbrev pub is_past : What → Bounds → Bool
is_past (Range (Bytes first last) exclusive) b = not b.mixed && (nat_lt b.high first || nat_lt last b.low)
is_past _ b = false

-- nothing within these bounds blocks what is asked: a range past them, or what the guard lets by
abbrev pub is_quiet : What → Bounds → Bool
is_quiet asked b = is_past asked b || lets_by b.guard asked

-- what is claimed lies within the bounds: the bytes of a range do; of anything else it is known that there is such, and no
-- answer is due to it before the bounds' moment, and that the guard counts it
abbrev pub IsWithin : Bounds → What → Type 0
IsWithin b (Range (Bytes first last) exclusive) = (b.low ≤ first) × (last ≤ b.high) × IsCounted b.guard (Range (Bytes first last) exclusive)
IsWithin b w = (b.mixed ≡ true) × IsDueFrom b.due w × IsCounted b.guard w

abbrev pub AreWithin : Bounds → List Claim → Type 0
AreWithin b cs = AllByRecursion (λ c. IsWithin b c.what) cs

-- without this claim the bounds may be narrower
abbrev pub is_edge : Bounds → What → Bool
is_edge b (Range (Bytes first last) exclusive) = nat_le first b.low || nat_le b.high last
is_edge b _ = true
