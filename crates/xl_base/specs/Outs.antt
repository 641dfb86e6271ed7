-- What entries send to a connection.
use Rattle.std.specs.Prelude.{◌≡◌, ℕ, ◌==◌, if◌then◌else◌, Bool, false, List, [], ◌∷◌, ◌++◌}
use Rattle.std.specs.List.{AllByRecursion}
use Rattle.xl_base.specs.declared.event.Dest.{Dest}
use Rattle.xl_base.specs.declared.event.Dest.TheVariants.{Conn, Back}
use Rattle.xl_base.specs.declared.event.Out.{Out}
use Rattle.xl_base.specs.declared.journal.Entry.{Entry}

-- whether an out goes to the connection of this number
abbrev pub goes_to : ℕ → Dest → Bool
goes_to number (Conn other) = other == number
goes_to number (Back call) = false

-- the bytes of those outs that go to the connection, joined
abbrev pub sent_to : ℕ → List Out → List ℕ
sent_to number [] = []
sent_to number (o ∷ os) = if goes_to number o.dest then o.bytes ++ sent_to number os else sent_to number os

-- the bytes that the entries send to the connection, joined
abbrev pub outs_to : ℕ → List Entry → List ℕ
outs_to number [] = []
outs_to number (e ∷ es) = sent_to number e.outs ++ outs_to number es

-- no out of the entries goes to the connection
abbrev pub IsSilent : ℕ → List Entry → Type 0
IsSilent number entries = AllByRecursion (λ e. AllByRecursion (λ o. goes_to number o.dest ≡ false) e.outs) entries
