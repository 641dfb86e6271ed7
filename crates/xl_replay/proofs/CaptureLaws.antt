-- The journal of a capture that is replayed is its head and its entries; and what its transcript is.
use Rattle.std.proofs.Common.{◌≡◌, ℕ, ◌<◌, true, List, [], length, take, Result, Ok, Err, sym, subst, ap, ◌∙◌, append-nil}
use Rattle.xl_base.specs.declared.halt.Halt.{Halt}
use Rattle.xl_base.specs.declared.halt.Halt.TheVariants as halts
use Rattle.xl_base.specs.declared.journal.Entry.{Entry}
use Rattle.xl_base.specs.declared.journal.Head.{Head}
use Rattle.xl_base.specs.declared.journal.Journal.{Journal}
use Rattle.xl_matrix.specs.declared.claim.Claim.{Claim}
use Rattle.xl_names.specs.declared.name.Name.{Name}
use Rattle.xl_capture.specs.Transcript.{claim_lines, entry_lines, transcript}
use Rattle.xl_capture.specs.declared.capture.Capture.{Capture}
use Rattle.xl_house.specs.Journals.{most_entries}
use Rattle.xl_house.specs.State.{start_of}
use Rattle.xl_jobs.specs.Jobs.{head_of}
use Rattle.xl_replay.specs.Captures.{BeginsAs, IsCutAt, IsReplayed, IsUnstartedAt, is_done, is_failed, is_full, journal_of, transcript_from, whole_transcript}
use Rattle.xl_replay.specs.Replays.{HasEnded, IsEnded, made_of}

abbrev journal_with : Head → List Entry → Journal
journal_with head entries = record { head = head; entries = entries }

same_journal : (c : Capture) (journal : Journal) → journal.head ≡ head_of c → journal.entries ≡ made_of (start_of (head_of c)) c.steps → journal ≡ journal_of c
same_journal c journal head entries = ap (λ (h : Head). journal_with h journal.entries) head ∙ ap (journal_with (head_of c)) entries

pub same_transcript : (journal : Journal) (head : Head) (es : List Entry) → journal.head ≡ head → journal.entries ≡ es → transcript_from head es ≡ whole_transcript journal
same_transcript journal head es h e = ap (λ (x : Head). transcript_from x es) (sym h) ∙ ap (λ (x : List Entry). transcript_from journal.head x) (sym e)

-- a transcript of no claims is that of the outs alone
pub outs_alone : (es : List Entry) (claims : List Claim) (names : List Name) (text : List ℕ) → text ≡ transcript es claims names → claims ≡ [] → text ≡ entry_lines 0 es
unfolding claim_lines
outs_alone es claims names text is none = is ∙ ap (λ (cs : List Claim). transcript es cs names) none ∙ append-nil (entry_lines 0 es)

-- ---- how a replay ended

module _ (c : Capture) (journal : Journal) (head : Head) (es : List Entry) (ended : Result (Unit {0}) Halt) (same : journal.head ≡ head) (entered : journal.entries ≡ es) (is : head ≡ head_of c) (by : IsEnded (start_of (head_of c)) c.steps es ended) where
  whole : es ≡ made_of (start_of (head_of c)) c.steps → journal ≡ journal_of c
  whole made = same_journal c journal (same ∙ is) (entered ∙ made)

  pub begun_stepped : BeginsAs c journal
  begun_stepped = record {
    entries = subst (λ (xs : List Entry). take (length xs) (made_of (start_of (head_of c)) c.steps) ≡ xs) (sym entered) by.begun;
    head = λ some. same ∙ is;
  }

  pub all_stepped : is_done ended ≡ true → IsReplayed (Ok c) journal
  all_stepped done = of ended by.so done where
    of : (e : Result (Unit {0}) Halt) → HasEnded (start_of (head_of c)) c.steps es e → is_done e ≡ true → IsReplayed (Ok c) journal
    of (Ok u) so done = (whole so.0, so.1)
    of (Err halt) so done = absurd cc

  pub full_stepped : is_full ended ≡ true → IsCutAt most_entries (Ok c) journal
  full_stepped full = of ended by.so full where
    of : (e : Result (Unit {0}) Halt) → HasEnded (start_of (head_of c)) c.steps es e → is_full e ≡ true → IsCutAt most_entries (Ok c) journal
    of (Ok u) so full = absurd cc
    of (Err halts.NoMemory) so full = absurd cc
    of (Err (halts.JournalFull count)) so full = (ap (λ (xs : List Entry). length xs) entered ∙ so.0, so.1, begun_stepped)
    of (Err (halts.StartStore count)) so full = absurd cc

  pub start_stepped : is_failed ended ≡ true → IsUnstartedAt most_entries (Ok c) journal
  start_stepped failed = of ended by.so failed where
    of : (e : Result (Unit {0}) Halt) → HasEnded (start_of (head_of c)) c.steps es e → is_failed e ≡ true → IsUnstartedAt most_entries (Ok c) journal
    of (Ok u) so failed = absurd cc
    of (Err halts.NoMemory) so failed = absurd cc
    of (Err (halts.JournalFull count)) so failed = absurd cc
    of (Err (halts.StartStore count)) so failed = (whole so.0, so.1, subst (λ (xs : List Entry). length xs < most_entries) (sym entered) so.2)
