-- What the house of a job begins from, and what a job ends with that has none.
use Rattle.std.specs.Prelude.{ℕ, Bool, true, false, ◌==◌, ◌||◌, List, []}
use Rattle.xl_base.specs.Stable.{Stable}
use Rattle.xl_base.specs.declared.halt.Halt.{Halt}
use Rattle.xl_base.specs.declared.halt.Halt.TheVariants as halts
use Rattle.xl_base.specs.declared.journal.Exports.{Exports}
use Rattle.xl_base.specs.declared.journal.Head.{Head}
use Rattle.xl_base.specs.declared.journal.Journal.{Journal}
use Rattle.xl_capture.specs.Capture.{default_lease, default_grace, default_break, no_lines}
use Rattle.xl_capture.specs.declared.capture.Capture.{Capture}

-- these files and these callers' addresses, with the default times in milliseconds
abbrev pub exports_with : List (List ℕ) → List (List ℕ × List ℕ) → Exports
exports_with files addresses = record { files = files; addresses = addresses; lease = default_lease; grace = default_grace; break_time = default_break }

-- those of a capture
abbrev pub exports_of : Capture → Exports
exports_of c = record { files = c.files; addresses = c.addresses; lease = c.lease; grace = c.grace; break_time = c.break_time }

-- what a run begins from: these exports, and this record (RECORD-4)
abbrev pub head_with : Exports → Stable → Head
head_with exports stable = record {
  exports = exports;
  start = record { 0 = 0 };
  «record» = stable;
}

-- what a capture's run begins from
abbrev pub head_of : Capture → Head
head_of c = head_with (exports_of c) c.stable

-- the journal of a run that stepped nothing (TEXT-12)
abbrev pub no_journal : Journal
no_journal = record { head = head_of no_lines; entries = [] }

-- a halt of a start whose load or store failed
abbrev pub is_unstored : Halt → Bool
is_unstored (halts.StartStore count) = true
is_unstored _ = false

-- the statuses of a job whose house didn't start: a failed load or store, no memory
abbrev pub is_unstarted : ℕ → Bool
is_unstarted n = n == 5 || n == 6
