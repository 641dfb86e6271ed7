-- Which held claim blocks an ask.
use Rattle.std.specs.Prelude.{Bool, true, false, not, ◌&&◌, ◌||◌, ◌==◌}
use Rattle.xl_base.specs.declared.name.Owner.{Owner}
use Rattle.xl_matrix.specs.declared.claim.What.{What}
use Rattle.xl_matrix.specs.declared.claim.What.TheVariants.{Share, Range, Cache}
use Rattle.xl_matrix.specs.declared.claim.Claim.{Claim}
use Rattle.xl_matrix.specs.Owners.{posix}
use Rattle.xl_matrix.specs.Equal.{same_owners}
use Rattle.xl_matrix.specs.Matrix.{ranges_meet, compat}

abbrev pub is_share : What → Bool
is_share (Share access deny) = true
is_share _ = false

abbrev pub is_range : What → Bool
is_range (Range extent exclusive) = true
is_range _ = false

abbrev pub is_cache : What → Bool
is_cache (Cache kind running) = true
is_cache _ = false

-- what an ask of its owner replaces: a share, and the ranges of a POSIX owner
abbrev pub is_replaced : Owner → What → Bool
is_replaced owner (Share access deny) = true
is_replaced owner (Range extent exclusive) = posix owner
is_replaced owner (Cache kind running) = false

-- the held claim is the asker's own, and the ask replaces it
abbrev pub is_own : Claim → Claim → Bool
is_own ask held = same_owners ask.owner held.owner && is_replaced held.owner held.what

-- an exclusive range that is asked meets a range
abbrev pub is_met : Owner → What → Owner → What → Bool
is_met owner (Range extent true) other (Range place alone) = ranges_meet owner extent other place
is_met owner _ other _ = false

-- an exclusive range is asked where its owner has one already
abbrev pub is_met_by_own : Claim → Claim → Bool
is_met_by_own ask held = (ask.file == held.file) && (same_owners ask.owner held.owner && is_met ask.owner ask.what held.owner held.what)

-- the held claim blocks the ask: both may not be held together, or an SMB open asks for an exclusive range where it
-- has one (CLAIM-2); but what the ask replaces doesn't (TABLE-7)
unfoldable pub blocks : Claim → Claim → Bool
blocks ask held = not (is_own ask held) && (not (compat ask held) || is_met_by_own ask held)
