-- A stream is cut alike in whatever pieces it comes.
use Rattle.std.proofs.Common.{◌≡◌, ℕ, zero, suc, ◌+◌, ◌%◌, ◌^◌, ◌≤◌, Bool, true, false, ltb, List, [], ◌∷◌, ◌++◌, length, take, drop, get_or, Option, Some, None, refl, sym, ap, ◌∙◌, append_assoc, arith}
use Rattle.std.specs.Int.{w32, byte_at, bytes_high_first, from_be_bytes}
use Rattle.std.proofs.Math.Nat.{div-eq_of_lt}
use Rattle.std.proofs.lemmas.Bool.{le-ltb}
use Rattle.std.proofs.lemmas.Bool.Decides.{nat_tests}
use Rattle.std.proofs.lemmas.List.{append-nil, take_at, drop_at, take-append-drop, length-append}
use Rattle.std.proofs.lemmas.Nat.{from_be_bytes-to_be_bytes_4}
use Rattle.xl_base.specs.declared.event.Kind.{Kind}
use Rattle.xl_base.specs.declared.event.Kind.TheVariants.{Rpc, Smb}
use Rattle.xl_frame.specs.declared.fault.FrameBad.{FrameBad}
use Rattle.xl_frame.specs.Frames.{header, wrapped, is_last, count_of, fault_of, Last, judged, under, fragment_at, Front, Whole, Part, Broken, front_of, Framed, with_frames, cut, frames_within, frames}
use Rattle.xl_frame.specs.Progress.{sight}
use Rattle.xl_frame.specs.Cutting.{unless_bad, then_piece, framed_of, Call, Feed, Next, Run, begun, called, after, stream_of}
use Rattle.xl_frame.proofs.Growth.{IsAhead, message_ahead, is_settled, front_with, message_grows, message_last}
use Rattle.xl_frame.proofs.FrameLaws.{frames_step, frames_whole, frames_broken}

-- ---- more bytes

then_with : (kind : Kind) (messages : List (List ℕ)) (f : Framed) (piece : List ℕ) → with_frames messages (then_piece kind f piece) ≡ then_piece kind (with_frames messages f) piece
unfolding then_piece
then_with kind messages f piece = by_fault f.bad
  where
    by_fault : (bad : Option FrameBad) → with_frames messages (unless_bad bad f (with_frames f.frames (frames kind (f.rest ++ piece)))) ≡ unless_bad bad (with_frames messages f) (with_frames (messages ++ f.frames) (frames kind (f.rest ++ piece)))
    by_fault None = ap (λ (ms : List (List ℕ)). record { frames = ms; rest = (frames kind (f.rest ++ piece)).rest; bad = (frames kind (f.rest ++ piece)).bad }) (sym (append_assoc messages f.frames (frames kind (f.rest ++ piece)).frames))
    by_fault (Some fault) = refl

-- what stands at the front, and a piece behind the bytes
cut_then : (kind : Kind) (next : List ℕ → Framed) (bytes piece : List ℕ) (x : Front) → IsAhead bytes x → (is_settled x ≡ true → front_of kind (bytes ++ piece) ≡ front_with piece x) → ((rest : List ℕ) → length rest + 4 ≤ length bytes → frames kind (rest ++ piece) ≡ then_piece kind (next rest) piece)
    → frames kind (bytes ++ piece) ≡ then_piece kind (cut next bytes x) piece
unfolding then_piece
cut_then kind next bytes piece (Whole message rest) ahead grows hyp =
    frames_whole kind (bytes ++ piece) message (rest ++ piece) (grows refl) ∙ ap (with_frames (message ∷ [])) (hyp rest ahead) ∙ then_with kind (message ∷ []) (next rest) piece
cut_then kind next bytes piece Part ahead grows hyp = refl
cut_then kind next bytes piece (Broken fault) ahead grows hyp = frames_broken kind (bytes ++ piece) fault (sym (ap sight (grows refl)))

frames_then : (n : ℕ) (kind : Kind) (bytes piece : List ℕ) → length bytes ≤ n → frames kind (bytes ++ piece) ≡ then_piece kind (frames kind bytes) piece
frames_then zero kind bytes piece h =
    cut_then kind (frames kind) bytes piece (front_of kind bytes) (message_ahead kind 64 0 bytes) (message_grows kind 64 0 bytes piece) (λ rest less. absurd (omega arith))
    ∙ ap (λ (f : Framed). then_piece kind f piece) (sym (frames_step kind bytes))
frames_then (suc n) kind bytes piece h =
    cut_then kind (frames kind) bytes piece (front_of kind bytes) (message_ahead kind 64 0 bytes) (message_grows kind 64 0 bytes piece) (λ rest less. frames_then n kind rest piece (omega arith))
    ∙ ap (λ (f : Framed). then_piece kind f piece) (sym (frames_step kind bytes))

-- a stream may be cut at any place, and the frames behind it cut later
pub cut_anywhere : (kind : Kind) (bytes piece : List ℕ) → frames kind (bytes ++ piece) ≡ then_piece kind (frames kind bytes) piece
cut_anywhere kind bytes piece = frames_then (length bytes) kind bytes piece (omega arith)

-- ---- calls of a cutter

abbrev IsRunOf : Kind → Run → List ℕ → Type 0
IsRunOf kind run stream = (run.cutter.kind ≡ kind) × (with_frames run.handed (framed_of run.cutter) ≡ frames kind stream)

run_fed : (kind : Kind) (run : Run) (stream piece : List ℕ) → IsRunOf kind run stream → IsRunOf kind (called run (Feed piece)) (stream ++ piece)
run_fed kind run stream piece is =
    (is.0, then_with run.cutter.kind run.handed (framed_of run.cutter) piece ∙ ap (λ (k : Kind). then_piece k (with_frames run.handed (framed_of run.cutter)) piece) is.0 ∙ ap (λ (f : Framed). then_piece kind f piece) is.1 ∙ sym (cut_anywhere kind stream piece))

run_next : (kind : Kind) (run : Run) (stream : List ℕ) → IsRunOf kind run stream → IsRunOf kind (called run Next) stream
run_next kind run stream is =
    (is.0, ap (λ (ms : List (List ℕ)). record { frames = ms; rest = run.cutter.rest; bad = run.cutter.bad }) (append_assoc run.handed (take 1 run.cutter.ready) (drop 1 run.cutter.ready) ∙ ap (λ (ms : List (List ℕ)). run.handed ++ ms) (take-append-drop 1 run.cutter.ready)) ∙ is.1)

run_after : (kind : Kind) (calls : List Call) (run : Run) (stream : List ℕ) → IsRunOf kind run stream → IsRunOf kind (after run calls) (stream ++ stream_of calls)
run_after kind [] run stream is = rw (append-nil stream) is
run_after kind (Feed piece ∷ calls) run stream is = rw (← append_assoc stream piece (stream_of calls)) (run_after kind calls (called run (Feed piece)) (stream ++ piece) (run_fed kind run stream piece is))
run_after kind (Next ∷ calls) run stream is = run_after kind calls (called run Next) stream (run_next kind run stream is)

frames_none : (kind : Kind) → frames kind [] ≡ record { frames = []; rest = []; bad = None }
unfolding frames frames_within
frames_none kind = refl

-- the messages that were handed out and those that are ready are the stream's, whatever the calls
pub handed_are_frames : (kind : Kind) (calls : List Call) → with_frames (after (begun kind) calls).handed (framed_of (after (begun kind) calls).cutter) ≡ frames kind (stream_of calls)
handed_are_frames kind calls = (run_after kind calls (begun kind) [] (refl, sym (frames_none kind))).1

-- ---- wrapped messages

pub fragment_under : (kind : Kind) (left sum : ℕ) (head rest : List ℕ) → length head ≡ 4 → fragment_at kind left sum (head ++ rest) ≡ under kind left sum (get_or head 0 0) (from_be_bytes w32 head) rest
unfolding fragment_at
fragment_under kind left sum head rest len =
    let long : ltb (length (head ++ rest)) 4 ≡ false = le-ltb _ _ (omega (arith, length-append head rest)) in
    rw (long, take_at head rest 4 len, drop_at head rest 4 len) refl

judged_whole : (f : Option FrameBad) (last : Bool) (count : ℕ) (message rest : List ℕ) → f ≡ None → last ≡ true → length message ≡ count → judged f last count (message ++ rest) ≡ Last message rest
judged_whole f last count message rest none is len =
    let long : ltb (length (message ++ rest)) count ≡ false = le-ltb _ _ (omega (arith, length-append message rest)) in
    rw (none, is, long, take_at message rest count len, drop_at message rest count len) refl

marked : (n : ℕ) → n ≤ 65536 → (fault_of Rpc 64 0 128 (2 ^ 31 + n) ≡ None) × (is_last Rpc (2 ^ 31 + n) ≡ true) × (n ≡ count_of Rpc (2 ^ 31 + n))
marked n most = (grind (arith, nat_tests), grind (arith, nat_tests), grind (arith, nat_tests))

plain : (n : ℕ) → n ≤ 65536 → (fault_of Smb 64 0 0 n ≡ None) × (is_last Smb n ≡ true) × (n ≡ count_of Smb n)
plain n most = (grind (arith, nat_tests), refl, refl)

high_byte : (n : ℕ) → n ≤ 65536 → byte_at 3 n ≡ 0
high_byte n most = ap (λ (k : ℕ). k % 256) (div-eq_of_lt {n = n} {m = 16777216} (omega arith))

smb_number : (n : ℕ) → n ≤ 65536 → from_be_bytes w32 (header Smb n) ≡ n
smb_number n most = ap (λ (b : ℕ). from_be_bytes w32 (b ∷ bytes_high_first 3 n)) (sym (high_byte n most)) ∙ from_be_bytes-to_be_bytes_4 n (omega arith)

header_len : (kind : Kind) (n : ℕ) → length (header kind n) ≡ 4
header_len Rpc n = refl
header_len Smb n = refl

under_whole : (kind : Kind) (message rest : List ℕ) → length message ≤ 65536 → under kind 64 0 (get_or (header kind (length message)) 0 0) (from_be_bytes w32 (header kind (length message))) (message ++ rest) ≡ Last message rest
under_whole Rpc message rest most =
    let n = length message in
    let is = marked n most in
    ap (λ (number : ℕ). under Rpc 64 0 128 number (message ++ rest)) (from_be_bytes-to_be_bytes_4 (2 ^ 31 + n) (omega arith))
    ∙ judged_whole (fault_of Rpc 64 0 128 (2 ^ 31 + n)) (is_last Rpc (2 ^ 31 + n)) (count_of Rpc (2 ^ 31 + n)) message rest is.0 is.1 is.2
under_whole Smb message rest most =
    let n = length message in
    let is = plain n most in
    ap (λ (number : ℕ). under Smb 64 0 0 number (message ++ rest)) (smb_number n most)
    ∙ judged_whole (fault_of Smb 64 0 0 n) (is_last Smb n) (count_of Smb n) message rest is.0 is.1 is.2

fragment_wrapped : (kind : Kind) (message rest : List ℕ) → length message ≤ 65536 → fragment_at kind 64 0 (wrapped kind message ++ rest) ≡ Last message rest
fragment_wrapped kind message rest most =
    ap (fragment_at kind 64 0) (append_assoc (header kind (length message)) message rest)
    ∙ fragment_under kind 64 0 (header kind (length message)) (message ++ rest) (header_len kind (length message))
    ∙ under_whole kind message rest most

-- a message in its frame is cut out as itself
pub wrapped_are_cut : (kind : Kind) (message rest : List ℕ) → length message ≤ 65536 → frames kind (wrapped kind message ++ rest) ≡ with_frames (message ∷ []) (frames kind rest)
wrapped_are_cut kind message rest most = frames_whole kind (wrapped kind message ++ rest) message rest (message_last kind 64 0 (wrapped kind message ++ rest) message rest (sym (fragment_wrapped kind message rest most)))
