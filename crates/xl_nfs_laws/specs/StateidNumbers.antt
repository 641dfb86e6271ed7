-- The numbers of stateids (RFC 7530 9.1.4).
use Rattle.std.specs.Prelude.{ℕ, ◌≤◌}
use Rattle.std.specs.List.{AllByRecursion}
use Rattle.xl_nfs_state.specs.State.{NfsLists}
use Rattle.xl_core.specs.State.{CoreState}
use Rattle.xl_nfs_opens.specs.Plans.{Outcome}

-- each stateid has a number that was given out, of which the last is this
abbrev pub AreGivenOut : ℕ → NfsLists → Type 0
AreGivenOut last l = AllByRecursion (λ r. r.number ≤ last) l.stateids

-- numbers are given out on from there, and each stateid has one that was
abbrev pub StayGivenOut : CoreState → Outcome → Type 0
StayGivenOut s r = (s.counter ≤ r.4.counter) × AreGivenOut r.4.counter r.3
