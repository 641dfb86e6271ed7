-- The calls that a number gives, and the journal that they make.
use Rattle.std.specs.Prelude.{◌≡◌, ◌<◌, ℕ, zero, suc, pos, ◌+◌, ◌*◌, ◌/◌, ◌%◌, ◌^◌, Bool, false, ◌==◌, ◌||◌, if◌then◌else◌, List, [], ◌∷◌, ◌++◌, map, length, take, codes}
use Rattle.xl_base.specs.Handles.{handle}
use Rattle.xl_base.specs.declared.event.Event.{Event}
use Rattle.xl_base.specs.declared.event.Event.TheVariants.{Open, Message}
use Rattle.xl_base.specs.declared.event.Kind.TheVariants.{Rpc}
use Rattle.xl_base.specs.declared.journal.Entry.{Entry}
use Rattle.xl_base.specs.declared.journal.Head.{Head}
use Rattle.xl_base.specs.declared.journal.Journal.{Journal}
use Rattle.xl_rpc.specs.Calls.{HeadItem, call}
use Rattle.xl_programs.specs.Programs.{number_of, version_of}
use Rattle.xl_programs.specs.declared.program.Program.TheVariants as programs
use Rattle.xl_nlm.specs.Arguments.{procedure_of, arguments}
use Rattle.xl_nlm.specs.Granted.{no_auth}
use Rattle.xl_nlm.specs.Items.{LockItem, CallItem, Test, Lock, Unlock}
use Rattle.xl_capture.specs.Capture.{all_stores, no_record}
use Rattle.xl_capture.specs.Summary.{summary}
use Rattle.xl_house.specs.Journals.{entries_of, replay}
use Rattle.xl_house.specs.State.{start_of}
use Rattle.xl_jobs.specs.Jobs.{exports_with, head_with}

-- ---- draws: a linear congruential generator below 2 ^ 31, whose upper bits are drawn

abbrev pub next : ℕ → ℕ
next x = (x * 1103515245 + 12345) % 2 ^ 31

abbrev pub draw : ℕ → ℕ
draw x = x / 65536

-- four draws on
abbrev pub fourth : ℕ → ℕ
fourth x = next (next (next (next x)))

-- ---- a call by its draws: what is done and whether exclusively by the first, the file by the second, the owner by the
-- third, the range by the fourth

abbrev pub exclusive_by : ℕ → Bool
exclusive_by a = (a / 4) % 2 == 1

abbrev pub lock_by : ℕ → ℕ → ℕ → LockItem
lock_by b c d = record { caller_name = codes "m"; fh = handle (1 + b % 8); oh = []; svid = pos (c % 4); l_offset = 10 * (d % 16); l_len = 10 }

abbrev pub asked_by : ℕ → Bool → LockItem → CallItem
asked_by choice exclusive lock =
    if choice == 2 then Unlock (record { cookie = []; lock = lock })
    else if choice == 3 then Test (record { cookie = []; exclusive = exclusive; lock = lock })
    else Lock (record { cookie = []; block = false; exclusive = exclusive; lock = lock; reclaim = false; state = pos 0 })

abbrev pub call_by : ℕ → ℕ → ℕ → ℕ → CallItem
call_by a b c d = asked_by (a % 4) (exclusive_by a) (lock_by b c d)

-- the call of the draws behind x
unfoldable pub call_from : ℕ → CallItem
call_from x = call_by (draw (next x)) (draw (next (next x))) (draw (next (next (next x)))) (draw (fourth x))

-- ---- its record, and the events

abbrev pub head_to : ℕ → ℕ → HeadItem
head_to number procedure = record { xid = number; prog = number_of programs.Nlm; vers = version_of programs.Nlm; proc = procedure; cred = no_auth; verf = no_auth }

unfoldable pub record_of : ℕ → CallItem → List ℕ
record_of number c = call (head_to number (procedure_of c)) ++ arguments c

-- so many calls, of which the first has this number, by the draws behind x
unfoldable pub calls_from : ℕ → ℕ → ℕ → List Event
calls_from x number zero = []
calls_from x number (suc more) = Message 0 (record_of number (call_from x)) ∷ calls_from (fourth x) (number + 1) more

-- a connection is opened, whose number is 0, and so many calls come from it, numbered from 1 (MAKE-3)
abbrev pub made : ℕ → ℕ → List Event
made seed count = Open Rpc ∷ calls_from seed 1 count

-- ---- the journal

-- f0 to f7
abbrev pub made_files : List (List ℕ)
made_files = map (λ digit. 102 ∷ digit ∷ []) (codes "01234567")

abbrev pub made_head : Head
made_head = head_with (exports_with made_files []) no_record

-- these events, no store of which fails
abbrev pub surely : List Event → List (Event × ℕ)
surely events = map (λ event. (event, all_stores)) events

unfoldable pub made_entries : ℕ → ℕ → List Entry
made_entries seed count = entries_of (start_of made_head) (surely (made seed count))

abbrev pub made_journal : ℕ → ℕ → Journal
made_journal seed count = record { head = made_head; entries = made_entries seed count }

-- the journal is a beginning of that one; if nothing was stepped its head may be that of an empty capture
pub record IsMadePart (seed count : ℕ) (journal : Journal) : Type 0 where
  pub entries : take (length journal.entries) (made_entries seed count) ≡ journal.entries
  pub head : 0 < length journal.entries → journal.head ≡ made_head

-- ---- its summary

abbrev pub summary_from : Head → List Entry → List ℕ
summary_from head es = summary es (replay (start_of head) es).core.claims

abbrev pub whole_summary : Journal → List ℕ
whole_summary journal = summary_from journal.head journal.entries

-- ---- its statuses

-- those of calls that are made: done, a failed sink, no memory
abbrev pub is_made : ℕ → Bool
is_made n = n == 0 || n == 3 || n == 6
