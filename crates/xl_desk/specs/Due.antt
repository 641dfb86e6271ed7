-- Which calls a journal asks for, and which of them is next.
use Rattle.std.specs.Prelude.{◌≡◌, ℕ, suc, ◌+◌, ◌-◌, ◌%◌, ◌==◌, ◌&&◌, nat_lt, Bool, false, if◌then◌else◌, List, [], ◌∷◌, length, drop, Option, Some, None}
use Rattle.xl_base.specs.declared.event.Dest.{Dest}
use Rattle.xl_base.specs.declared.event.Dest.TheVariants.{Conn, Back}
use Rattle.xl_base.specs.declared.event.Out.{Out}
use Rattle.xl_base.specs.declared.journal.Entry.{Entry}
use Rattle.xl_desk.specs.declared.outs.Due.{Due}
use Rattle.xl_desk.specs.declared.outs.Found.{Found}

-- the entries from an absolute place on, if the first has that place
abbrev pub entries_from : ℕ → ℕ → List Entry → List Entry
entries_from first place log = drop (place - first) log

-- a call that is due: its number is past the last one's, and of that share
abbrev pub is_due : Due → Dest → Bool
is_due due (Conn number) = false
is_due due (Back call) = nat_lt due.after call && (call % due.of == due.share)

-- the first of an entry's calls that is due
abbrev pub due_of : Due → List Out → Option Out
due_of due [] = None
due_of due (o ∷ os) = if is_due due o.dest then Some o else due_of due os

-- the first, or else the other
abbrev pub or_later : Option Out → Option Out → Option Out
or_later None later = later
or_later (Some call) later = Some call

-- how many entries stand before one that has a call, or one more than behind it
abbrev pub or_more : Option Out → ℕ → ℕ
or_more None more = suc more
or_more (Some call) more = 0

-- the first call that is due in these entries, and how many of them stand before its own; all, if none is
abbrev pub due_in : Due → List Entry → Option Out
due_in due [] = None
due_in due (e ∷ es) = or_later (due_of due e.outs) (due_in due es)

abbrev pub ahead_of : Due → List Entry → ℕ
ahead_of due [] = 0
ahead_of due (e ∷ es) = or_more (due_of due e.outs) (ahead_of due es)

-- What a search from a place on found: the first call that is due from there, the place of its entry, and the place past
-- the last entry, which stands for both if no call is due (THREAD-5).
pub record IsFound (due : Due) (first from : ℕ) (log : List Entry) (found : Found) : Type 0 where
  pub call : found.call ≡ due_in due (entries_from first from log)
  pub at : found.at ≡ from + ahead_of due (entries_from first from log)
  pub end : found.end ≡ first + length log
