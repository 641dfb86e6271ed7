-- What the core keeps between two calls.
use Rattle.std.specs.Prelude.{◌≡◌, ℕ, ◌+◌, ◌≤◌, Bool, true, false, List, [], ◌++◌, Option}
use Rattle.xl_base.specs.Stable.{Stable}
use Rattle.xl_base.specs.declared.event.Moment.{Moment}
use Rattle.xl_grace.specs.Grace.{Running, begun}
use Rattle.xl_matrix.specs.declared.claim.Claim.{Claim}
use Rattle.xl_names.specs.declared.name.Name.{Name}
use Rattle.xl_wait.specs.declared.waiter.Waiter.{Waiter}
use Rattle.xl_core.specs.Leases.{Lease}
use Rattle.xl_core.specs.declared.lease.Times.{Times}

-- the claims in the table's order, the waiters in order of arrival, the names kept, the record as it is stored, the
-- grace that runs, if one does, the clock, how long things last, the leases that run, in order of arrival, and the last
-- number that was given out; of the step that runs, how many stores were made, whether one failed, and the records that
-- the keeper was given, in order
pub record CoreState : Type 0 where
  pub claims : List Claim
  pub waiters : List Waiter
  pub names : List Name
  pub stable : Stable
  pub grace : Option Running
  pub clock : Moment
  pub times : Times
  pub leases : List Lease
  pub counter : ℕ
  pub made : ℕ
  pub failed : Bool
  pub given : List Stable

-- the state at a start: grace runs if the record has names (RFC 7530 9.6.2)
abbrev pub started : Stable → Moment → Times → CoreState
started stable clock times = record { claims = []; waiters = []; names = []; stable = stable; grace = begun stable clock times.grace; clock = clock; times = times; leases = []; counter = 0; made = 0; failed = false; given = [] }

-- the state at the beginning of a step
unfoldable pub step_begun : CoreState → CoreState
step_begun s = record s { made = 0; failed = false; given = [] }

-- what only stores and grace change: the record, the grace that runs, and the stores of the step
pub record Aside : Type 0 where
  pub stable : Stable
  pub grace : Option Running
  pub made : ℕ
  pub failed : Bool
  pub given : List Stable

abbrev pub aside_of : CoreState → Aside
aside_of s = record { stable = s.stable; grace = s.grace; made = s.made; failed = s.failed; given = s.given }

-- the state once the next number is given out (CORE-12)
unfoldable pub drawn : CoreState → CoreState
drawn s = record s { counter = s.counter + 1 }

-- as far as the state tells, n stores succeed in this step (CORE-16)
pub record MayBe (n : ℕ) (s : CoreState) : Type 0 where
  pub enough : s.made ≤ n
  pub spent : s.failed ≡ true → s.made ≡ n

-- what never goes back in a step: behind the records that the keeper was given more may come
pub record GoesOn (old new : CoreState) : Type 0 where
  pub made : old.made ≤ new.made
  pub failed : old.failed ≡ true → (new.failed ≡ true) × (new.made ≡ old.made)
  pub more : List Stable
  pub given : new.given ≡ old.given ++ more
