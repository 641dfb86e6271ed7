-- Gates in memory.
use Rattle.std.specs.Prelude.{ℕ, Bool, ◌==◌, ◌&&◌, nat_lt, List}
use Rattle.std.specs.List.{list_any}
use Rattle.xl_base.specs.declared.gate.Held.{Held}

-- whether the call is held back, if so many turns are done
abbrev pub is_held : ℕ → ℕ → List Held → Bool
is_held call turns held = list_any (λ h. h.call == call && nat_lt turns h.turns) held
