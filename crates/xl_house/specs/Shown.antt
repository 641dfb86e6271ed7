-- What telling of effects leaves of the core.
use Rattle.std.specs.Prelude.{◌≡◌, ℕ, ◌+◌, ◌≤◌}
use Rattle.xl_core.specs.State.{CoreState}

-- telling of effects gives out so many numbers at most, and changes nothing else
pub record IsShown (bound : ℕ) (s t : CoreState) : Type 0 where
  pub rises : s.counter ≤ t.counter
  pub most : t.counter ≤ s.counter + bound
  pub parts : t ≡ record s { counter = t.counter }
