-- The capture that is written of a journal is read.
use Rattle.std.proofs.Common.{◌≡◌, ℕ, ◌≤◌, Bool, false, ltb, List, [], ◌++◌, length, Ok, refl, sym, ap, ◌∙◌}
use Rattle.std.proofs.lemmas.Bool.{le-ltb}
use Rattle.std.proofs.lemmas.List.{append-nil}
use Rattle.xl_base.specs.declared.journal.Journal.{Journal}
use Rattle.xl_capture.specs.Again.{IsSayable, said_by}
use Rattle.xl_capture.specs.Capture.{most_bytes, captured, capture_in, no_reading, with_lines, lines_of, looked_at}
use Rattle.xl_capture.specs.Written.{capture_of, header_lines, event_lines}
use Rattle.xl_capture.specs.declared.capture.Capture.{Capture}
use Rattle.xl_capture.specs.declared.capture.Reading.{Reading}
use Rattle.xl_capture.proofs.LineLaws.{looked_whole}
use Rattle.xl_capture.proofs.WordLaws.{Reads, reads_both}
use Rattle.xl_capture.proofs.HeadLaws.{with_names, header_read}
use Rattle.xl_capture.proofs.EntryLaws.{entries_read, none_open}

all_read : (text : List ℕ) (r : Reading) → Reads no_reading text r → length text ≤ most_bytes → captured text ≡ Ok r.capture
unfolding captured with_lines
all_read text r reads few =
    let past : ltb most_bytes (length text) ≡ false = le-ltb _ _ few in
    let lines : lines_of (looked_at text) ≡ lines_of (text ++ []) = ap lines_of (sym (looked_whole text few) ∙ sym (append-nil text)) in
    ap (λ (b : Bool). capture_in (with_lines b no_reading 0 (lines_of (looked_at text)))) past
    ∙ ap (λ (ls : List (List ℕ)). capture_in (with_lines false no_reading 0 ls)) lines
    ∙ ap capture_in (reads [] 0).1

pub written_again : (j : Journal) → IsSayable j → length (capture_of j) ≤ most_bytes → captured (capture_of j) ≡ Ok (said_by j)
unfolding capture_of
written_again j is few =
    let begun = with_names j.head.exports j.head.«record».epoch j.head.«record».names in
    let header = header_read j.head is.head in
    let events = entries_read [] j.entries [] begun (none_open j.entries j.head.exports j.head.«record».epoch j.head.«record».names) refl is.entries is.few in
    let whole = reads_both no_reading begun events.known (header_lines j.head) (event_lines j.entries j.entries) header events.reads in
    all_read (capture_of j) events.known whole few ∙ ap (λ (c : Capture). Ok c) events.same
