-- A text that says what is exported, and maybe the record before the start, and nothing else.
use Rattle.std.specs.Prelude.{ℕ, ◌+◌, Bool, true, ◌==◌, ◌||◌, nat_lt, if◌then◌else◌, List, [], ◌∷◌, Option, Some, None, Result, Ok, Err}
use Rattle.xl_capture.specs.Capture.{captured, lines_of, looked_at}
use Rattle.xl_capture.specs.declared.capture.Capture.{Capture}

-- a line that says what is exported or recorded, or is passed over
abbrev pub is_header : List ℕ → Bool
is_header [] = true
is_header (b ∷ bs) = b == 35 || b == 70 || b == 72 || b == 75 || b == 76 || b == 78

-- the number of the first line that is none; n lines stand before these
abbrev pub first_other : ℕ → List (List ℕ) → Option ℕ
first_other n [] = None
first_other n (line ∷ lines) = if is_header line then first_other (n + 1) lines else Some (n + 1)

-- the lower number of a bad line
abbrev pub lower : ℕ → ℕ → ℕ
lower n line = if nat_lt n line then n else line

-- what a text says, if the line of this number is the first that is no header line
abbrev pub unless_other : Option ℕ → Result Capture ℕ → Result Capture ℕ
unless_other None read = read
unless_other (Some n) (Ok c) = Err n
unless_other (Some n) (Err line) = Err (lower n line)

-- what a text of header lines says, or the number of the first line that is none, or isn't in its grammar
unfoldable pub headed : List ℕ → Result Capture ℕ
headed text = unless_other (first_other 0 (lines_of (looked_at text))) (captured text)
