-- Words and operations that `show` reads; a text past its most bytes is not shown.
use Rattle.std.proofs.Common.{◌≡◌, ℕ, zero, suc, ◌+◌, ◌-◌, ◌<◌, ◌≤◌, inl, inr, Bool, true, false, ltb, List, [], ◌∷◌, ◌++◌, length, take, Option, Some, None, Result, Ok, Err, refl, sym, ◌∙◌, arith}
use Rattle.std.specs.Option.{option_map_or}
use Rattle.std.proofs.lemmas.Bool.{cases_lt, lt-ltb, ne_eqb, true≢false}
use Rattle.xl_rpc.specs.declared.fault.RpcBad.{RpcBad}
use Rattle.xl_nfs.specs.Ops.{OpItem, op_number, op_at}
use Rattle.std.proofs.lemmas.List.{length-take}
use Rattle.xl_capture.specs.Capture.{most_bytes, looked_at, lines_of, is_last}
use Rattle.xl_capture.specs.Show.{is_unlisted, ops_from, show_words, show_line, show_lines, shown}
use Rattle.xl_capture.proofs.LineLaws.{is_last_line}

-- five words tell as much as all
pub few_shown : (words : List (List ℕ)) → show_words (take 5 words) ≡ show_words words
unfolding show_words
few_shown [] = refl
few_shown (a ∷ []) = refl
few_shown (a ∷ b ∷ []) = refl
few_shown (a ∷ b ∷ d ∷ []) = refl
few_shown (a ∷ b ∷ d ∷ e ∷ []) = refl
few_shown (a ∷ b ∷ d ∷ e ∷ f ∷ more) = refl

pub no_op : (numbers : List ℕ) (n : ℕ) (bytes : List ℕ) → n ≡ 0 → ops_from numbers n bytes ≡ Some numbers
unfolding ops_from
no_op numbers zero bytes e = refl
no_op numbers (suc n) bytes e = absurd (omega (arith, e))

pub cut_op : (numbers : List ℕ) (n : ℕ) (bytes : List ℕ) (fault : RpcBad) → 0 < n → op_at bytes ≡ Err fault → ops_from numbers n bytes ≡ None
unfolding ops_from
cut_op numbers zero bytes fault some e = absurd (omega (arith, some))
cut_op numbers (suc n) bytes fault some e = rw e refl

pub last_op : (numbers : List ℕ) (n : ℕ) (bytes : List ℕ) (o : OpItem) (rest : List ℕ) → 0 < n → op_at bytes ≡ Ok (o, rest) → is_unlisted o ≡ true → ops_from numbers n bytes ≡ Some (numbers ++ op_number o ∷ [])
unfolding ops_from
last_op numbers zero bytes o rest some e last = absurd (omega (arith, some))
last_op numbers (suc n) bytes o rest some e last = rw (e, last) refl

pub next_op : (numbers : List ℕ) (n : ℕ) (bytes : List ℕ) (o : OpItem) (rest : List ℕ) → 0 < n → op_at bytes ≡ Ok (o, rest) → is_unlisted o ≡ false → ops_from numbers n bytes ≡ ops_from (numbers ++ op_number o ∷ []) (n - 1) rest
unfolding ops_from
next_op numbers zero bytes o rest some e listed = absurd (omega (arith, some))
next_op numbers (suc n) bytes o rest some e listed = let back : suc n - 1 ≡ n = omega arith in rw (back, e, listed) refl

step_refused : (o : Option (List ℕ)) (f : List ℕ → Result (List ℕ) ℕ) (n : ℕ) (d : List ℕ) → ((line : List ℕ) → f line ≡ Ok d → ⊥) → option_map_or f o (Err n) ≡ Ok d → ⊥
step_refused None f n d none e = absurd cc
step_refused (Some line) f n d none e = none line e

-- of a text that goes past its most bytes nothing is shown
past_refused : (before : List ℕ) (n : ℕ) (lines : List (List ℕ)) (d : List ℕ) → is_last lines ≡ false → show_lines true before n lines ≡ Ok d → ⊥
unfolding show_lines
past_refused before n [] d some e = true≢false some
past_refused before n (l ∷ []) d some e = absurd cc
past_refused before n (l ∷ m ∷ ls) d some e =
    step_refused (show_line l) (λ line. show_lines true (before ++ line) (n + 1) (m ∷ ls)) (n + 1) d (λ line. past_refused (before ++ line) (n + 1) (m ∷ ls) d refl) e

refused : (past : Bool) (lines : List (List ℕ)) (d : List ℕ) → past ≡ true → is_last lines ≡ false → show_lines past [] 0 lines ≡ Ok d → ⊥
refused true lines d is some e = past_refused [] 0 lines d some e
refused false lines d is some e = absurd (true≢false (sym is))

-- a text that is shown has no more than the most bytes
pub shown_ended : (text : List ℕ) (lines : List ℕ) → shown text ≡ Ok lines → length text ≤ most_bytes
unfolding shown
shown_ended text lines e =
    elim (cases_lt most_bytes (length text)) [
      | inr few ↦ few
      | inl past ↦
          let some : is_last (lines_of (looked_at text)) ≡ false = is_last_line (looked_at text) ∙ ne_eqb (length (looked_at text)) 0 (λ none. absurd (omega (arith, none, past, length-take (most_bytes + 1) text))) in
          absurd (refused (ltb most_bytes (length text)) (lines_of (looked_at text)) lines (lt-ltb most_bytes (length text) past) some e)
    ]
