-- A text that goes past its most bytes is no capture.
use Rattle.std.proofs.Common.{◌≡◌, ℕ, ◌+◌, ◌≤◌, inl, inr, Bool, true, false, ltb, Result, Ok, Err, refl, [], ◌∷◌, List, length, Option, Some, None, sym, ◌∙◌, arith}
use Rattle.std.specs.Option.{option_map_or}
use Rattle.std.proofs.lemmas.Bool.{cases_lt, lt-ltb, ne_eqb, true≢false}
use Rattle.std.proofs.lemmas.List.{length-take}
use Rattle.xl_capture.specs.Capture.{most_bytes, looked_at, captured, capture_in, no_reading, with_lines, with_line, lines_of, is_last}
use Rattle.xl_capture.specs.declared.capture.Capture.{Capture}
use Rattle.xl_capture.specs.declared.capture.Reading.{Reading}
use Rattle.xl_capture.proofs.LineLaws.{is_last_line}

step_refused : (o : Option Reading) (f : Reading → Result Reading ℕ) (n : ℕ) (d : Reading) → ((c : Reading) → f c ≡ Ok d → ⊥) → option_map_or f o (Err n) ≡ Ok d → ⊥
step_refused None f n d none e = absurd cc
step_refused (Some c) f n d none e = none c e

-- a text that goes past its most bytes is no capture
past_refused : (r : Reading) (n : ℕ) (lines : List (List ℕ)) (d : Reading) → is_last lines ≡ false → with_lines true r n lines ≡ Ok d → ⊥
unfolding with_lines
past_refused r n [] d some e = true≢false some
past_refused r n (l ∷ []) d some e = absurd cc
past_refused r n (l ∷ m ∷ ls) d some e =
    step_refused (with_line r l) (λ s. with_lines true s (n + 1) (m ∷ ls)) (n + 1) d (λ s. past_refused s (n + 1) (m ∷ ls) d refl) e

refused : (past : Bool) (r : Reading) (lines : List (List ℕ)) (d : Reading) → past ≡ true → is_last lines ≡ false → with_lines past r 0 lines ≡ Ok d → ⊥
refused true r lines d is some e = past_refused r 0 lines d some e
refused false r lines d is some e = absurd (true≢false (sym is))

-- what is known where a capture was read
read_as : (r : Result Reading ℕ) (c : Capture) → capture_in r ≡ Ok c → (s : Reading) × (r ≡ Ok s)
read_as (Ok s) c e = (s, refl)
read_as (Err line) c e = absurd cc

pub read_ended : (text : List ℕ) (d : Capture) → captured text ≡ Ok d → length text ≤ most_bytes
unfolding captured
read_ended text d e =
    elim (cases_lt most_bytes (length text)) [
      | inr few ↦ few
      | inl past ↦
          let some : is_last (lines_of (looked_at text)) ≡ false = is_last_line (looked_at text) ∙ ne_eqb (length (looked_at text)) 0 (λ none. absurd (omega (arith, none, past, length-take (most_bytes + 1) text))) in
          let read = read_as (with_lines (ltb most_bytes (length text)) no_reading 0 (lines_of (looked_at text))) d e in
          absurd (refused (ltb most_bytes (length text)) no_reading (lines_of (looked_at text)) read.0 (lt-ltb most_bytes (length text) past) some read.1)
    ]
