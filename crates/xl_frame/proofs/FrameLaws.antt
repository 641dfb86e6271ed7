-- The frames of a stream, one after the other.
use Rattle.std.proofs.Common.{◌≡◌, ℕ, zero, suc, ◌+◌, ◌≤◌, List, [], ◌∷◌, ◌++◌, length, drop, Option, Some, None, refl, sym, ap, ◌∙◌, append_assoc, arith}
use Rattle.std.proofs.lemmas.List.{append-nil, drop-drop, drop_all}
use Rattle.xl_base.specs.declared.event.Kind.{Kind}
use Rattle.xl_frame.specs.declared.fault.FrameBad.{FrameBad}
use Rattle.xl_frame.specs.Frames.{fragment_at, Front, Whole, Part, Broken, message_at, front_of, Framed, with_frames, cut, frames_within, frames}
use Rattle.xl_frame.specs.Progress.{IsPart, IsBroken, sight}
use Rattle.xl_frame.specs.Cutting.{then_piece, Cutting, fed}
use Rattle.xl_frame.proofs.Growth.{IsAhead, message_ahead}

-- no bytes are less than a frame
front_none : (kind : Kind) (bytes : List ℕ) → length bytes ≤ 0 → front_of kind bytes ≡ Part
unfolding message_at fragment_at
front_none kind [] h = refl
front_none kind (b ∷ bytes) h = absurd (omega arith)

-- A stream has at most as many frames as bytes, so that looking for more of them changes nothing.
cut_same : (f g : List ℕ → Framed) (bytes : List ℕ) (x : Front) → IsAhead bytes x → ((rest : List ℕ) → length rest + 4 ≤ length bytes → f rest ≡ g rest) → cut f bytes x ≡ cut g bytes x
cut_same f g bytes (Whole message rest) ahead same = ap (with_frames (message ∷ [])) (same rest ahead)
cut_same f g bytes Part ahead same = refl
cut_same f g bytes (Broken fault) ahead same = refl

frames_enough : (n m : ℕ) (kind : Kind) (bytes : List ℕ) → length bytes ≤ n → length bytes ≤ m → frames_within n kind bytes ≡ frames_within m kind bytes
unfolding frames_within
frames_enough zero zero kind bytes a b = refl
frames_enough zero (suc m) kind bytes a b = rw (front_none kind bytes a) refl
frames_enough (suc n) zero kind bytes a b = rw (front_none kind bytes b) refl
frames_enough (suc n) (suc m) kind bytes a b =
    cut_same (frames_within n kind) (frames_within m kind) bytes (front_of kind bytes) (message_ahead kind 64 0 bytes) (λ rest less. frames_enough n m kind rest (omega arith) (omega arith))

frames_open : (kind : Kind) (bytes : List ℕ) → frames kind bytes ≡ cut (frames_within (length bytes) kind) bytes (front_of kind bytes)
unfolding frames frames_within
frames_open kind bytes = frames_enough (length bytes) (suc (length bytes)) kind bytes (omega arith) (omega arith)

within_is : (n : ℕ) (kind : Kind) (bytes : List ℕ) → length bytes ≤ n → frames_within n kind bytes ≡ frames kind bytes
unfolding frames
within_is n kind bytes h = frames_enough n (length bytes) kind bytes h (omega arith)

-- what stands at the front of a stream, in front of what is cut behind it
pub frames_step : (kind : Kind) (bytes : List ℕ) → frames kind bytes ≡ cut (frames kind) bytes (front_of kind bytes)
frames_step kind bytes = frames_open kind bytes ∙ cut_same (frames_within (length bytes) kind) (frames kind) bytes (front_of kind bytes) (message_ahead kind 64 0 bytes) (λ rest less. within_is (length bytes) kind rest (omega arith))

pub frames_whole : (kind : Kind) (bytes message rest : List ℕ) → front_of kind bytes ≡ Whole message rest → frames kind bytes ≡ with_frames (message ∷ []) (frames kind rest)
frames_whole kind bytes message rest is = frames_step kind bytes ∙ ap (cut (frames kind) bytes) is

cut_part : (next : List ℕ → Framed) (bytes : List ℕ) (x : Front) → IsPart ≡ sight x → cut next bytes x ≡ record { frames = []; rest = bytes; bad = None }
cut_part next bytes (Whole message rest) is = absurd cc
cut_part next bytes Part is = refl
cut_part next bytes (Broken fault) is = absurd cc

cut_broken : (next : List ℕ → Framed) (bytes : List ℕ) (fault : FrameBad) (x : Front) → IsBroken fault ≡ sight x → cut next bytes x ≡ record { frames = []; rest = []; bad = Some fault }
cut_broken next bytes fault (Whole message rest) is = absurd cc
cut_broken next bytes fault Part is = absurd cc
cut_broken next bytes fault (Broken other) is = let same : fault ≡ other = cc in rw same refl

pub frames_part : (kind : Kind) (bytes : List ℕ) → IsPart ≡ sight (front_of kind bytes) → frames kind bytes ≡ record { frames = []; rest = bytes; bad = None }
frames_part kind bytes is = frames_step kind bytes ∙ cut_part (frames kind) bytes (front_of kind bytes) is

pub frames_broken : (kind : Kind) (bytes : List ℕ) (fault : FrameBad) → IsBroken fault ≡ sight (front_of kind bytes) → frames kind bytes ≡ record { frames = []; rest = []; bad = Some fault }
frames_broken kind bytes fault is = frames_step kind bytes ∙ cut_broken (frames kind) bytes fault (front_of kind bytes) is

-- ---- steps of the walk over a stream's frames

with_more : (messages : List (List ℕ)) (message : List ℕ) (f : Framed) → with_frames (messages ++ message ∷ []) f ≡ with_frames messages (with_frames (message ∷ []) f)
with_more messages message f = ap (λ (ms : List (List ℕ)). record { frames = ms; rest = f.rest; bad = f.bad }) (append_assoc messages (message ∷ []) f.frames)

pub cut_whole : (kind : Kind) (bytes : List ℕ) (begin size : ℕ) (messages : List (List ℕ)) (message : List ℕ) (all : Framed) → with_frames messages (frames kind (drop begin bytes)) ≡ all → front_of kind (drop begin bytes) ≡ Whole message (drop size (drop begin bytes))
    → with_frames (messages ++ message ∷ []) (frames kind (drop (begin + size) bytes)) ≡ all
cut_whole kind bytes begin size messages message all so_far is =
    with_more messages message (frames kind (drop (begin + size) bytes))
    ∙ ap (λ (rest : List ℕ). with_frames messages (with_frames (message ∷ []) (frames kind rest))) (sym (drop-drop size begin bytes))
    ∙ ap (with_frames messages) (sym (frames_whole kind (drop begin bytes) message (drop size (drop begin bytes)) is))
    ∙ so_far

pub cut_ends : (kind : Kind) (bytes : List ℕ) (begin : ℕ) (messages : List (List ℕ)) (all : Framed) → with_frames messages (frames kind (drop begin bytes)) ≡ all → IsPart ≡ sight (front_of kind (drop begin bytes))
    → record { frames = messages; rest = drop begin bytes; bad = None } ≡ all
cut_ends kind bytes begin messages all so_far is =
    ap (λ (ms : List (List ℕ)). record { frames = ms; rest = drop begin bytes; bad = None }) (sym (append-nil messages))
    ∙ ap (with_frames messages) (sym (frames_part kind (drop begin bytes) is)) ∙ so_far

pub cut_breaks : (kind : Kind) (bytes : List ℕ) (begin : ℕ) (messages : List (List ℕ)) (fault : FrameBad) (all : Framed) → with_frames messages (frames kind (drop begin bytes)) ≡ all → IsBroken fault ≡ sight (front_of kind (drop begin bytes))
    → record { frames = messages; rest = drop (length bytes) bytes; bad = Some fault } ≡ all
cut_breaks kind bytes begin messages fault all so_far is =
    ap (λ (rest : List ℕ). record { frames = messages; rest = rest; bad = Some fault }) (drop_all (length bytes) bytes (omega arith))
    ∙ ap (λ (ms : List (List ℕ)). record { frames = ms; rest = []; bad = Some fault }) (sym (append-nil messages))
    ∙ ap (with_frames messages) (sym (frames_broken kind (drop begin bytes) fault is)) ∙ so_far

-- ---- a cutter

fed_same : (kind : Kind) (ready : List (List ℕ)) (rest : List ℕ) (bad : Option FrameBad) (piece : List ℕ) (fault : FrameBad) → bad ≡ Some fault → record { kind = kind; ready = ready; rest = rest; bad = bad } ≡ fed (record { kind = kind; ready = ready; rest = rest; bad = bad }) piece
unfolding then_piece
fed_same kind ready rest bad piece fault is = rw is refl

-- behind a bad place nothing changes
pub fed_bad : (c : Cutting) (piece : List ℕ) (fault : FrameBad) → c.bad ≡ Some fault → c ≡ fed c piece
fed_bad c piece fault is = fed_same c.kind c.ready c.rest c.bad piece fault is

-- in front of it the frames of what is held and the piece come
pub fed_good : (kind : Kind) (ready : List (List ℕ)) (rest : List ℕ) (bad : Option FrameBad) (piece : List ℕ) (r : List (List ℕ)) (h : List ℕ) (b : Option FrameBad) → bad ≡ None → r ≡ ready ++ (frames kind (rest ++ piece)).frames → h ≡ (frames kind (rest ++ piece)).rest → b ≡ (frames kind (rest ++ piece)).bad
    → record { kind = kind; ready = r; rest = h; bad = b } ≡ fed (record { kind = kind; ready = ready; rest = rest; bad = bad }) piece
unfolding then_piece
fed_good kind ready rest bad piece r h b good r-is h-is b-is = rw (good, r-is, h-is, b-is) refl
