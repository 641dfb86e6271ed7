-- What an input names that is to be served, and the statuses of a run that serves.
use Rattle.std.proofs.Common.{◌≡◌, ◌⊎◌, inl, inr, ℕ, ◌+◌, ◌≤◌, ◌==◌, ◌||◌, true, List, length, Option, Some, None, Result, Ok, Err, IfSome, refl, sym, ap, subst}
use Rattle.std.proofs.lemmas.Bool.{eqb-true}
use Rattle.xl_base.specs.Outside.{Ended, Took}
use Rattle.xl_base.specs.declared.journal.Exports.{Exports}
use Rattle.xl_capture.specs.Capture.{bad_line, captured, lines_of, looked_at, most_bytes}
use Rattle.xl_capture.specs.Headers.{first_other, headed, lower, unless_other}
use Rattle.xl_capture.specs.declared.capture.Capture.{Capture}
use Rattle.xl_capture.specs.declared.capture.CaptureError.{CaptureError}
use Rattle.xl_capture.specs.declared.capture.CaptureError.TheVariants as errors
use Rattle.xl_capture.proofs.EndLaws.{read_ended}
use Rattle.xl_serve.specs.Serve.{is_concluded, is_served}
use Rattle.xl_serve.proofs.ServeLaws.{either, no_false, or_right}
use Rattle.xl_top.specs.Job.{capped, exported, exported_by, is_exported, is_idle, is_refused, is_serve}
use Rattle.xl_top.proofs.ReadLaws.{whole}

-- ---- statuses

refused_is : (s : ℕ) → is_refused s ≡ true → (s ≡ 2) ⊎ ((s ≡ 4) ⊎ (s ≡ 6))
refused_is s is =
    elim (either ((s == 2) || (s == 4)) (s == 6) is) [
      | inl front ↦
          elim (either (s == 2) (s == 4) front) [
            | inl two ↦ inl (eqb-true s 2 two)
            | inr four ↦ inr (inl (eqb-true s 4 four))
          ]
      | inr six ↦ inr (inr (eqb-true s 6 six))
    ]

pub refused_serve : (s : ℕ) → is_refused s ≡ true → is_serve s ≡ true
refused_serve s is =
    elim (refused_is s is) [
      | inl two ↦ subst (λ (n : ℕ). is_serve n ≡ true) (sym two) refl
      | inr more ↦
          elim more [
            | inl four ↦ subst (λ (n : ℕ). is_serve n ≡ true) (sym four) refl
            | inr six ↦ subst (λ (n : ℕ). is_serve n ≡ true) (sym six) refl
          ]
    ]

pub refused_exported : (s : ℕ) → is_refused s ≡ true → is_exported s ≡ true → ⊥
refused_exported s is exported =
    elim (refused_is s is) [
      | inl two ↦ no_false (subst (λ (n : ℕ). is_exported n ≡ true) two exported)
      | inr more ↦
          elim more [
            | inl four ↦ no_false (subst (λ (n : ℕ). is_exported n ≡ true) four exported)
            | inr six ↦ no_false (subst (λ (n : ℕ). is_exported n ≡ true) six exported)
          ]
    ]

pub concluded_serve : (s : ℕ) → is_concluded s ≡ true → is_serve s ≡ true
concluded_serve s is = or_right ((s == 2) || (s == 4)) (is_concluded s) is

idle_is : (s : ℕ) → is_idle s ≡ true → (s ≡ 1) ⊎ ((s ≡ 2) ⊎ (s ≡ 4))
idle_is s is =
    elim (either ((s == 1) || (s == 2)) (s == 4) is) [
      | inl front ↦
          elim (either (s == 1) (s == 2) front) [
            | inl one ↦ inl (eqb-true s 1 one)
            | inr two ↦ inr (inl (eqb-true s 2 two))
          ]
      | inr four ↦ inr (inr (eqb-true s 4 four))
    ]

-- what was concluded was begun
pub concluded_stepped : (s : ℕ) → is_concluded s ≡ true → is_idle s ≡ true → ⊥
concluded_stepped s is idle =
    elim (idle_is s idle) [
      | inl one ↦ no_false (subst (λ (n : ℕ). is_concluded n ≡ true) one is)
      | inr more ↦
          elim more [
            | inl two ↦ no_false (subst (λ (n : ℕ). is_concluded n ≡ true) two is)
            | inr four ↦ no_false (subst (λ (n : ℕ). is_concluded n ≡ true) four is)
          ]
    ]

-- where memory ran out nothing was served
pub starved_unexported : (s : ℕ) → s ≡ 6 → is_exported s ≡ true → ⊥
starved_unexported s six is = no_false (subst (λ (n : ℕ). is_exported n ≡ true) six is)

pub starved_unserved : (s : ℕ) → s ≡ 6 → is_served s ≡ true → ⊥
starved_unserved s six is = no_false (subst (λ (n : ℕ). is_served n ≡ true) six is)

-- ---- exports

abbrev refused : ℕ → Result Exports ℕ
refused line = Err line

not_ok : (line : ℕ) (e : Exports) → refused line ≡ Ok e → ⊥
not_ok line e same = cc

read_by : (other : Option ℕ) (read : Result Capture ℕ) (e : Exports) → exported_by (unless_other other read) ≡ Ok e → (c : Capture) × (read ≡ Ok c)
read_by None (Ok c) e same = (c, refl)
read_by None (Err line) e same = absurd (not_ok line e same)
read_by (Some n) (Ok c) e same = absurd (not_ok n e same)
read_by (Some n) (Err line) e same = absurd (not_ok (lower n line) e same)

-- a text that names exports is no longer than a capture may be
pub exported_short : (text : List ℕ) (e : Exports) → exported text ≡ Ok e → length text ≤ most_bytes
unfolding headed
exported_short text e same = let read = read_by (first_other 0 (lines_of (looked_at text))) (captured text) e same in read_ended text read.0 read.1

-- the first bad line, as it is told
pub exported_bad : (fault : CaptureError) (line : ℕ) (given : Result Exports ℕ) → fault ≡ errors.BadLine line → IfSome (bad_line fault) (λ n. given ≡ Err n) → given ≡ Err line
exported_bad fault line given is told = subst (λ (f : CaptureError). IfSome (bad_line f) (λ n. given ≡ Err n)) is told

pub exported_whole : (left new : Option (List ℕ)) (all v : List ℕ) → left ≡ Some all → Took left v new → length v ≤ most_bytes + 1 → (length v ≤ most_bytes → Ended new) → exported (capped all) ≡ exported v
exported_whole left new all v told took most ended = ap exported (whole left new all v told took most ended)
