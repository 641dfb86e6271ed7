-- What the ending of a run says.
use Rattle.std.specs.Prelude.{ℕ, ◌+◌, ◌≤◌, Bool, ◌==◌, ◌||◌, List, length, take, Option, Some, None, Result, Ok, Err}
use Rattle.xl_base.specs.Outside.{Added, Began}
use Rattle.xl_base.specs.declared.journal.Exports.{Exports}
use Rattle.xl_capture.specs.Capture.{most_bytes}
use Rattle.xl_capture.specs.Headers.{headed}
use Rattle.xl_capture.specs.declared.capture.Capture.{Capture}
use Rattle.xl_jobs.specs.Jobs.{exports_of}
use Rattle.xl_replay.specs.Captures.{is_stepped}
use Rattle.xl_serve.specs.Serve.{is_concluded, is_served}

-- the statuses that an ending has
abbrev pub is_status : ℕ → Bool
is_status n = n == 0 || n == 1 || n == 2 || n == 3 || n == 4 || n == 5 || n == 6 || n == 7

-- those of a text that is replayed: a bad line besides those of a capture
abbrev pub is_read : ℕ → Bool
is_read n = n == 4 || is_stepped n

-- the statuses that a replay of an input has: a failed source besides
abbrev pub is_replay : ℕ → Bool
is_replay n = n == 2 || is_read n

-- those of a text whose lines are shown: done, a failed sink, a bad line, no memory; and those of an input
abbrev pub is_shown : ℕ → Bool
is_shown n = n == 0 || n == 3 || n == 4 || n == 6

abbrev pub is_show : ℕ → Bool
is_show n = n == 2 || is_shown n

-- the statuses at which nothing was stepped or written: no job, a failed source, a bad line
abbrev pub is_idle : ℕ → Bool
is_idle n = n == 1 || n == 2 || n == 4

-- those of an input that names no exports
abbrev pub is_refused : ℕ → Bool
is_refused n = n == 2 || n == 4 || n == 6

-- those of an input that is to be served: a failed source and a bad line besides those of its machine
abbrev pub is_serve : ℕ → Bool
is_serve n = n == 2 || n == 4 || is_concluded n

-- those of a machine that was served, and of one whose start failed: the exports were read
abbrev pub is_exported : ℕ → Bool
is_exported n = n == 5 || is_served n

-- what is read of an input: at most one byte past the most of a capture
abbrev pub capped : List ℕ → List ℕ
capped input = take (most_bytes + 1) input

-- at most so many bytes were taken from what was left, if that is told
abbrev pub TookMost : ℕ → Option (List ℕ) → Option (List ℕ) → Type 0
TookMost n None new = Unit {0}
TookMost n (Some left) None = ⊥
TookMost n (Some left) (Some rest) = length left ≤ n + length rest

-- what a text of header lines exports, or the number of the first line that is none, or isn't in its grammar
abbrev pub exported_by : Result Capture ℕ → Result Exports ℕ
exported_by (Ok c) = Ok (exports_of c)
exported_by (Err line) = Err line

abbrev pub exported : List ℕ → Result Exports ℕ
exported text = exported_by (headed text)

-- the lines that a text shows were added to what was written
abbrev pub AddsShown : Option (List ℕ) → Result (List ℕ) ℕ → Option (List ℕ) → Type 0
AddsShown old (Ok lines) new = Added old lines new
AddsShown old (Err line) new = ⊥

-- a beginning of them was
abbrev pub BeginsShown : Option (List ℕ) → Result (List ℕ) ℕ → Option (List ℕ) → Type 0
BeginsShown old (Ok lines) new = Began old lines new
BeginsShown old (Err line) new = ⊥
