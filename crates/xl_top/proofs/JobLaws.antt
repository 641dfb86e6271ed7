-- What the input of a replay makes its journal, and what the lines of `show` are.
use Rattle.std.proofs.Common.{◌≡◌, ◌≢◌, ℕ, ◌==◌, ◌||◌, inl, inr, List, Option, Result, Ok, Err, refl, sym, subst, arith, true}
use Rattle.std.proofs.lemmas.Bool.{both_ways, eqb-true}
use Rattle.xl_base.specs.declared.journal.Journal.{Journal}
use Rattle.xl_capture.specs.declared.capture.Capture.{Capture}
use Rattle.xl_house.specs.Journals.{most_entries}
use Rattle.xl_jobs.specs.Jobs.{no_journal}
use Rattle.xl_replay.specs.Captures.{BeginsAs, FailsBefore, IsBegun, IsCutAt, IsReplayed, IsUnstartedAt}
use Rattle.xl_replay.specs.Replays.{has_failed_start}
use Rattle.xl_serve.proofs.ServeLaws.{either}
use Rattle.xl_top.specs.Job.{AddsShown, BeginsShown, is_replay}

-- ---- the capture that was read

pub replayed_as : (r : Result Capture ℕ) (c : Capture) (journal : Journal) → r ≡ Ok c → IsReplayed (Ok c) journal → IsReplayed r journal
replayed_as r c journal e same = subst (λ s. IsReplayed s journal) (sym e) same

pub begun_as : (r : Result Capture ℕ) (c : Capture) (journal : Journal) → r ≡ Ok c → BeginsAs c journal → IsBegun r journal
begun_as r c journal e begun = subst (λ s. IsBegun s journal) (sym e) begun

pub cut_as : (r : Result Capture ℕ) (c : Capture) (journal : Journal) → r ≡ Ok c → IsCutAt most_entries (Ok c) journal → IsCutAt most_entries r journal
cut_as r c journal e cut = subst (λ s. IsCutAt most_entries s journal) (sym e) cut

pub unstarted_as : (r : Result Capture ℕ) (c : Capture) (journal : Journal) → r ≡ Ok c → IsUnstartedAt most_entries (Ok c) journal → IsUnstartedAt most_entries r journal
unstarted_as r c journal e failed = subst (λ s. IsUnstartedAt most_entries s journal) (sym e) failed

-- a journal without entries begins as any
pub bad_as : (r : Result Capture ℕ) → IsBegun r no_journal
bad_as (Ok c) = record { entries = refl; head = λ some. absurd (omega (arith, some)) }
bad_as (Err line) = refl

-- ---- a start that is to fail

-- a replay that is done comes to none, one that met a full journal to none before that, and a text with a bad line has none
done_starts : (r : Result Capture ℕ) (journal : Journal) → FailsBefore most_entries r → IsReplayed r journal → ⊥
done_starts (Ok c) journal fails done = both_ways (has_failed_start c.steps) done.1 fails.0
done_starts (Err line) journal fails done = fails

cut_starts : (r : Result Capture ℕ) (journal : Journal) → FailsBefore most_entries r → IsCutAt most_entries r journal → ⊥
cut_starts (Ok c) journal fails cut = omega (arith, fails.1, cut.1)
cut_starts (Err line) journal fails cut = fails

bad_starts : (r : Result Capture ℕ) (line : ℕ) → FailsBefore most_entries r → r ≡ Err line → ⊥
bad_starts r line fails bad = subst (λ s. FailsBefore most_entries s) bad fails

-- so such a replay ends with it, unless the source failed or memory ran out
pub only_starts : (r : Result Capture ℕ) (journal : Journal) (line status : ℕ) → is_replay status ≡ true → (status ≡ 0 → IsReplayed r journal) → (status ≡ 3 → IsReplayed r journal) → (status ≡ 4 → r ≡ Err line) → (status ≡ 7 → IsCutAt most_entries r journal)
    → FailsBefore most_entries r → status ≢ 2 → status ≢ 6 → status ≡ 5
only_starts r journal line status known done unwritten bad full fails read memory =
    elim (either (status == 2) _ known) [
      | inl two ↦ absurd (read (eqb-true status 2 two))
      | inr read_so ↦
          elim (either (status == 4) _ read_so) [
            | inl four ↦ absurd (bad_starts r line fails (bad (eqb-true status 4 four)))
            | inr stepped ↦
                elim (either ((status == 0) || (status == 3) || (status == 5) || (status == 6)) (status == 7) stepped) [
                  | inr seven ↦ absurd (cut_starts r journal fails (full (eqb-true status 7 seven)))
                  | inl most ↦
                      elim (either ((status == 0) || (status == 3) || (status == 5)) (status == 6) most) [
                        | inr six ↦ absurd (memory (eqb-true status 6 six))
                        | inl more ↦
                            elim (either ((status == 0) || (status == 3)) (status == 5) more) [
                              | inr five ↦ eqb-true status 5 five
                              | inl ends ↦
                                  elim (either (status == 0) (status == 3) ends) [
                                    | inl zero ↦ absurd (done_starts r journal fails (done (eqb-true status 0 zero)))
                                    | inr three ↦ absurd (done_starts r journal fails (unwritten (eqb-true status 3 three)))
                                  ]
                            ]
                      ]
                ]
          ]
    ]

-- ---- the lines that are shown

-- what lines were written is that of an equal text
pub adds_as : (old new : Option (List ℕ)) (a b : Result (List ℕ) ℕ) → a ≡ b → AddsShown old a new → AddsShown old b new
adds_as old new a b e adds = subst (λ (r : Result (List ℕ) ℕ). AddsShown old r new) e adds

pub begins_as : (old new : Option (List ℕ)) (a b : Result (List ℕ) ℕ) → a ≡ b → BeginsShown old a new → BeginsShown old b new
begins_as old new a b e begins = subst (λ (r : Result (List ℕ) ℕ). BeginsShown old r new) e begins
