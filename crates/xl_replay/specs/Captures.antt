-- What the replay of a capture comes to.
use Rattle.std.specs.Prelude.{◌≡◌, ℕ, ◌<◌, ◌≤◌, Bool, true, false, ◌==◌, ◌||◌, List, [], length, take, Result, Ok, Err}
use Rattle.xl_base.specs.declared.halt.Halt.{Halt}
use Rattle.xl_base.specs.declared.halt.Halt.TheVariants as halts
use Rattle.xl_base.specs.declared.journal.Entry.{Entry}
use Rattle.xl_base.specs.declared.journal.Head.{Head}
use Rattle.xl_base.specs.declared.journal.Journal.{Journal}
use Rattle.xl_capture.specs.Transcript.{entry_lines, transcript}
use Rattle.xl_capture.specs.declared.capture.Capture.{Capture}
use Rattle.xl_house.specs.Journals.{replay}
use Rattle.xl_house.specs.State.{Whole, start_of}
use Rattle.xl_jobs.specs.Jobs.{head_of}
use Rattle.xl_replay.specs.Replays.{has_failed_start, made_of, tried}

-- the statuses of a replay all of whose starts came to pass: done, a failed sink, no memory, a full journal
abbrev pub is_housed : ℕ → Bool
is_housed n = n == 0 || n == 3 || n == 6 || n == 7

-- those of a replay: a failed start besides
abbrev pub is_stepped : ℕ → Bool
is_stepped n = n == 0 || n == 3 || n == 5 || n == 6 || n == 7

-- the journal that a capture's steps make, up to the first start that fails
abbrev pub journal_of : Capture → Journal
journal_of c = record { head = head_of c; entries = made_of (start_of (head_of c)) c.steps }

-- the journal is the one of the capture that was read, all of whose starts came to pass
abbrev pub IsReplayed : Result Capture ℕ → Journal → Type 0
IsReplayed (Ok c) journal = (journal ≡ journal_of c) × (has_failed_start c.steps ≡ false)
IsReplayed (Err line) journal = ⊥

-- the journal is a beginning of that one; if nothing was stepped its head may be that of an empty capture
pub record BeginsAs (c : Capture) (journal : Journal) : Type 0 where
  pub entries : take (length journal.entries) (journal_of c).entries ≡ journal.entries
  pub head : 0 < length journal.entries → journal.head ≡ head_of c

abbrev pub IsBegun : Result Capture ℕ → Journal → Type 0
IsBegun (Ok c) journal = BeginsAs c journal
IsBegun (Err line) journal = journal.entries ≡ []

-- a step of the capture, perhaps a start that would fail, met a full journal
abbrev pub IsCutAt : ℕ → Result Capture ℕ → Journal → Type 0
IsCutAt most (Ok c) journal = (length journal.entries ≡ most) × (most < length (tried c.steps)) × BeginsAs c journal
IsCutAt most (Err line) journal = ⊥

-- a start of the capture failed, for which the journal had room: the journal is that of the steps before it
abbrev pub IsUnstartedAt : ℕ → Result Capture ℕ → Journal → Type 0
IsUnstartedAt most (Ok c) journal = (journal ≡ journal_of c) × (has_failed_start c.steps ≡ true) × (length journal.entries < most)
IsUnstartedAt most (Err line) journal = ⊥

-- a start of the capture is to fail, before the journal is full
abbrev pub FailsBefore : ℕ → Result Capture ℕ → Type 0
FailsBefore most (Ok c) = (has_failed_start c.steps ≡ true) × (length (tried c.steps) ≤ most)
FailsBefore most (Err line) = ⊥

-- the transcript of entries, and of what is held in the state that they lead to
abbrev pub transcript_with : List Entry → Whole → List ℕ
transcript_with es s = transcript es s.core.claims s.core.names

abbrev pub transcript_from : Head → List Entry → List ℕ
transcript_from head es = transcript_with es (replay (start_of head) es)

-- the transcript of a whole journal: its outs, and what is held after it
abbrev pub whole_transcript : Journal → List ℕ
whole_transcript journal = transcript_from journal.head journal.entries

-- the transcript of its outs alone, without what is held
abbrev pub outs_transcript : Journal → List ℕ
outs_transcript journal = entry_lines 0 journal.entries

-- all steps were made
abbrev pub is_done : Result (Unit {0}) Halt → Bool
is_done (Ok _) = true
is_done (Err _) = false

-- the journal is full
abbrev pub is_full : Result (Unit {0}) Halt → Bool
is_full (Err (halts.JournalFull count)) = true
is_full _ = false

-- a start failed
abbrev pub is_failed : Result (Unit {0}) Halt → Bool
is_failed (Err (halts.StartStore count)) = true
is_failed _ = false
