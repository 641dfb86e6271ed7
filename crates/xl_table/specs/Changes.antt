-- What a grant or an unlock changes, worked out before it is written.
use Rattle.std.specs.Prelude.{◌≡◌, ℕ, ◌+◌, ◌-◌, ◌≤◌, List, ◌++◌, length, take, drop}
use Rattle.xl_base.specs.Lists.{Pairwise}
use Rattle.xl_matrix.specs.declared.claim.Claim.{Claim}
use Rattle.xl_table.specs.declared.change.Change.{Change}
use Rattle.xl_table.specs.Files.{AreOn, here, alone}
use Rattle.xl_table.specs.Order.{goes_first}
use Rattle.xl_table.specs.Held.{IsSound}

-- a file's claims once the change is written: those that it names gave way to those that it enters (TABLE-8)
unfoldable pub spliced : Change → List Claim → List Claim
spliced change on = take change.start on ++ (change.entered.items ++ drop change.end on)

-- the claims once the change is written: its file's are changed so, and all others stay
unfoldable pub written : Change → List Claim → List Claim
written change held = alone change.file (spliced change) held

-- the change is one of this file's claims, if so many are held on all files
pub record IsOn (at held_now : ℕ) (on : List Claim) (change : Change) : Type 0 where
  pub file : change.file ≡ at
  pub order : change.start ≤ change.end
  pub within : change.end ≤ length on
  pub own : AreOn at change.entered.items
  pub count : change.held + (change.end - change.start) ≡ held_now + length change.entered.items

-- the change is one of these claims, and a table may hold what it leaves, if there is room
pub record MayBeWritten (change : Change) (held : List Claim) : Type 0 where
  pub order : change.start ≤ change.end
  pub within : change.end ≤ length (here change.file held)
  pub own : AreOn change.file change.entered.items
  pub sound : IsSound (written change held)
  pub ordered : Pairwise goes_first (written change held)
  pub count : change.held ≡ length (written change held)
