-- A machine that sends each message back, and asks for a call at each reading of the clock.
use Rattle.std.specs.Prelude.{◌≡◌, ℕ, suc, Bool, true, false, not, nat_lt, ◌==◌, ◌&&◌, ◌||◌, List, [], ◌∷◌, length, Option}
use Rattle.std.specs.List.{AllByRecursion}
use Rattle.xl_base.specs.declared.event.Dest.{Dest}
use Rattle.xl_base.specs.declared.event.Dest.TheVariants.{Conn, Back}
use Rattle.xl_base.specs.declared.event.Event.{Event}
use Rattle.xl_base.specs.declared.event.Event.TheVariants.{End}
use Rattle.xl_base.specs.declared.halt.Halt.{Halt}
use Rattle.xl_base.specs.declared.halt.Halt.TheVariants.{NoMemory, JournalFull, StartStore}
use Rattle.xl_base.specs.declared.journal.Entry.{Entry}
use Rattle.xl_base.specs.Outs.{IsSilent}

-- the machine as its callers see it
pub record Echoed : Type 0 where
  pub first : ℕ
  pub most : ℕ
  pub entries : List Entry
  pub halt : Option Halt

-- whether an event ends the connection of this number, and whether one of the entries does
abbrev pub ends : ℕ → Event → Bool
ends number (End other) = other == number
ends number _ = false

abbrev pub has_ended : ℕ → List Entry → Bool
has_ended number [] = false
has_ended number (e ∷ es) = ends number e.event || has_ended number es

-- an out to a connection stands behind its opening, and in none behind its end
abbrev pub may_go : ℕ → List Entry → Dest → Bool
may_go place log (Conn number) = nat_lt number place && not (has_ended number log)
may_go place log (Back call) = true

-- behind the end of a connection nothing is sent to it
abbrev pub IsQuietBehind : Event → List Entry → Type 0
IsQuietBehind (End number) log = IsSilent number log
IsQuietBehind _ log = Unit {0}

-- no connection is sent anything before its opening or behind its end
abbrev pub IsEcho : ℕ → List Entry → Type 0
IsEcho place [] = Unit {0}
IsEcho place (e ∷ es) = AllByRecursion (λ o. may_go place [] o.dest ≡ true) e.outs × IsQuietBehind e.event es × IsEcho (suc place) es

-- memory may run out at any time, and the journal is full with so many entries
abbrev pub MayStop : List Entry → Halt → Type 0
MayStop log NoMemory = Unit {0}
MayStop log (JournalFull count) = count ≡ length log
MayStop log (StartStore count) = ⊥
