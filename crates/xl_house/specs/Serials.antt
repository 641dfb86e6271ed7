-- A house as a value that takes one event after another.
use Rattle.std.specs.Prelude.{◌≡◌, List, length}
use Rattle.xl_base.specs.Serials.{IsInTime}
use Rattle.xl_base.specs.declared.halt.Halt.{Halt}
use Rattle.xl_base.specs.declared.halt.Halt.TheVariants.{NoMemory, JournalFull, StartStore}
use Rattle.xl_base.specs.declared.journal.Entry.{Entry}
use Rattle.xl_base.specs.declared.journal.Head.{Head}
use Rattle.xl_house.specs.Journals.{IsLegal, most_entries}
use Rattle.xl_house.specs.State.{start_of}

-- what may be its history: each entry is the machine's step, and nothing is sent to a connection before its opening or after its end
abbrev pub IsHistory : Head → List Entry → Type 0
IsHistory head log = IsLegal (start_of head) log × IsInTime 0 log

-- which halt may come behind these entries: memory may run out at any time, and the journal is full with just so many entries
abbrev pub MayHalt : List Entry → Halt → Type 0
MayHalt log NoMemory = Unit {0}
MayHalt log (JournalFull count) = (count ≡ length log) × (length log ≡ most_entries)
MayHalt log (StartStore count) = ⊥
