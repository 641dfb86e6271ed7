-- How many numbers may be given out before anyone asks again.
use Rattle.std.specs.Prelude.{ℕ, ◌+◌, Bool, false, true, ◌&&◌, List, length, Some, None, is_some}
use Rattle.std.specs.List.{filter}
use Rattle.xl_matrix.specs.declared.claim.Claim.{Claim}
use Rattle.xl_matrix.specs.declared.claim.What.{What}
use Rattle.xl_matrix.specs.declared.claim.What.TheVariants.{Cache}
use Rattle.xl_core.specs.BreaksBegun.{is_recalled}
use Rattle.xl_core.specs.State.{CoreState}

-- a break of the cache may still begin: none runs, or the one that runs leaves something
abbrev pub may_be_broken : What → Bool
may_be_broken (Cache kind None) = true
may_be_broken (Cache kind (Some running)) = is_some running.target
may_be_broken _ = false

-- the cache is a delegation that may be recalled, by a call with a number of its own
abbrev pub may_be_recalled : Claim → Bool
may_be_recalled c = is_recalled c.party && may_be_broken c.what

abbrev pub delegations_left : List Claim → ℕ
delegations_left held = length (filter may_be_recalled held)

-- The last number that was given out, and one more for each who waits, as a call may tell that it is served, and for each
-- delegation that may be recalled: so far numbers may go before anyone asks again.
abbrev pub numbers_of : CoreState → ℕ
numbers_of s = s.counter + length s.waiters + delegations_left s.claims
