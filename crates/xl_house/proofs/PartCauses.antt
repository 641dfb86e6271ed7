-- Each message that is done where frames go on is that of a part of one.
use Rattle.std.proofs.Common.{◌≡◌, ◌⊎◌, ◌==◌, ℕ, zero, suc, Bool, true, false, inl, inr, not, ◌&&◌, if◌then◌else◌, List, [], ◌∷◌, ◌++◌, map, find, filter, Option, Some, None, IfSome, Result, Ok, Err, refl, sym, ap, ◌∙◌}
use Rattle.std.specs.List.{AllByRecursion}
use Rattle.xl_base.proofs.Members.{all_append, all_from, all_in, all_weaker, in_append_right, in_filter_from, in_map}
use Rattle.xl_base.proofs.Searches.{find_in}
use Rattle.xl_base.specs.Lists.{IsIn}
use Rattle.xl_base.specs.declared.event.Event.{Event}
use Rattle.xl_base.specs.declared.event.Event.TheVariants.{Message, End}
use Rattle.xl_base.specs.declared.event.Out.{Out}
use Rattle.xl_base.specs.declared.journal.Exports.{Exports}
use Rattle.xl_smb.specs.Compounds.{Part, is_over, most_parts, next_at, next_by, part_at}
use Rattle.xl_smb.specs.Heads.{head_of}
use Rattle.xl_smb.specs.Related.{is_related, resolved, taken_over}
use Rattle.xl_smb.specs.declared.fault.SmbBad.{SmbBad}
use Rattle.xl_smb.specs.declared.head.SmbHead.{SmbHead}
use Rattle.xl_smb.specs.declared.related.Before.{Before}
use Rattle.xl_smb_frames.specs.Answers.{answered, answered_by, bytes_or_none, is_none, paused_with, rest_of, turned}
use Rattle.xl_smb_frames.specs.Frames.{opened, refused_by}
use Rattle.xl_smb_frames.specs.Steps.{is_silent, judged, next_step, step_by, undone_by}
use Rattle.xl_smb_frames.specs.Waking.{woken, woken_by}
use Rattle.xl_smb_frames.specs.declared.frame.Frame.{Frame}
use Rattle.xl_smb_frames.specs.declared.frame.Paused.{Paused}
use Rattle.xl_smb_frames.specs.declared.steps.Step.{Step}
use Rattle.xl_smb_frames.specs.declared.steps.Step.TheVariants as steps
use Rattle.xl_house.specs.Done.{Round, done_round, first_by, first_round, rounds_by, rounds_for, step_round, top_round}
use Rattle.xl_house.specs.Machine.{Gone, Ground, advanced_by, after_hearing, after_part, begun_by, frame_in, frames_begun, gone_further, gone_on, heard, part_done, part_heard, part_in, paused_after, settled_in, steps_left}
use Rattle.xl_house.specs.Parted.{IsPartOf, Source, behind_at, brought_by, next_or_none, sources}
use Rattle.xl_house.specs.Sifting.{behind_by, behind_woken, brings_frame, is_final, is_smb, last_apart, last_on, listed, message_in, message_or_none, on_top, popped, sent_by, sift_all, sift_one, sifted, sifted_by}
use Rattle.xl_house.specs.State.{Whole, kind_of}
use Rattle.xl_house.specs.Telling.{settled}
use Rattle.xl_house.specs.declared.frames.Going.{Going}
use Rattle.xl_house.specs.declared.frames.Sifted.{Sifted}

-- ---- bytes that stand in a frame

-- there are none, or they stand in one of these from a header on
abbrev From : List Source → ℕ → List ℕ → Type 0
From all conn rest = (rest ≡ []) ⊎ ((bytes : List ℕ) × IsIn (conn, bytes) all × ((k : ℕ) × (behind_at k bytes ≡ rest)))

abbrev FrameFrom : List Source → Frame → Type 0
FrameFrom all f = From all f.conn f.rest

abbrev PausedFrom : List Source → Paused → Type 0
PausedFrom all p = From all p.conn p.rest

no_part : part_at [] ≡ None
unfolding part_at head_of
no_part = refl

none_some : {A : Type 0} (x : A) → None ≡ Some x → ⊥
none_some x e = cc

nothing : (rest : List ℕ) (p : Part) → rest ≡ [] → part_at rest ≡ Some p → ⊥
nothing rest p e is = none_some p (sym no_part ∙ ap (λ (bytes : List ℕ). part_at bytes) (sym e) ∙ is)

rest_is : (rest : List ℕ) (p : Part) → part_at rest ≡ Some p → next_or_none rest ≡ rest_of p
unfolding next_at
rest_is rest p is = ap (λ (q : Option Part). bytes_or_none (next_by q)) is

next_from : (all : List Source) (conn : ℕ) (rest : List ℕ) (p : Part) → part_at rest ≡ Some p → From all conn rest → From all conn (rest_of p)
next_from all conn rest p is (inl e) = absurd (nothing rest p e is)
next_from all conn rest p is (inr (bytes, inside, (k, at))) = inr (bytes, inside, (suc k, ap (λ (b : List ℕ). next_or_none b) at ∙ rest_is rest p is))

-- ---- a part that is answered, and a request that waited

abbrev AnswerFrom : List Source → Frame × Option Paused → Type 0
AnswerFrom all a = FrameFrom all a.0 × AllByRecursion (PausedFrom all) (listed a.1)

stands_from : (all : List Source) (conn : ℕ) (before : Option Before) (left : ℕ) (p : Part) (id : ℕ) (rest : List ℕ) (b : Option Before) (alone : Bool) → From all conn rest
    → AllByRecursion (PausedFrom all) (listed (if alone then None else paused_with (record { conn = conn; before = before; left = left }) p id rest b))
stands_from all conn before left p id rest b true from = tt
stands_from all conn before left p id rest None false from = tt
stands_from all conn before left p id rest (Some b) false from = (from, tt)

turned_from : (all : List Source) (conn : ℕ) (before : Option Before) (left : ℕ) (p : Part) (replies : List (List ℕ)) (after : List Out) (b : Option Before) (w : Option ℕ) → From all conn (rest_of p)
    → AnswerFrom all (turned (record { conn = conn; before = before; left = left }) p (record { replies = replies; after = after }) b w)
turned_from all conn before left p replies after b None from = (from, tt)
turned_from all conn before left p replies after b (Some id) from = (inl refl, stands_from all conn before left p id (rest_of p) b (not (is_related p.head) && is_none (rest_of p)) from)

answered_from : (all : List Source) (f : Frame) (reply : List ℕ) → FrameFrom all f → AnswerFrom all (answered f reply)
unfolding answered
answered_from all f reply from = by (part_at f.rest) refl where
  by : (q : Option Part) → part_at f.rest ≡ q → AnswerFrom all (answered_by (record { conn = f.conn; before = f.before; left = f.left }) (record { replies = f.replies; after = f.after }) reply q)
  by None is = (inl refl, tt)
  by (Some p) is = turned_from all f.conn f.before f.left p _ f.after _ _ (next_from all f.conn f.rest p is from)

woken_from : (all : List Source) (p : Paused) (final : List ℕ) → PausedFrom all p → FrameFrom all (woken p final)
unfolding woken
woken_from all p final from = by (head_of final) where
  by : (r : Result SmbHead SmbBad) → FrameFrom all (woken_by p final r)
  by (Err fault) = inl refl
  by (Ok h) = from

-- ---- what is sifted

abbrev SiftedFrom : List Source → Sifted → Type 0
SiftedFrom all w = AllByRecursion (FrameFrom all) w.woken × AllByRecursion (PausedFrom all) w.paused

abbrev LastSo : (Frame → Type 0) → List Frame × Option Frame → Type 0
LastSo P (fs, None) = AllByRecursion P fs
LastSo P (fs, Some f) = AllByRecursion P fs × P f

last_on_so : (P : Frame → Type 0) (f : Frame) (r : List Frame × Option Frame) → P f → LastSo P r → LastSo P (last_on f r)
last_on_so P f (fs, None) first rest = (rest, first)
last_on_so P f (fs, Some last) first rest = ((first, rest.0), rest.1)

last_so : (P : Frame → Type 0) (fs : List Frame) → AllByRecursion P fs → LastSo P (last_apart fs)
last_so P [] all = tt
last_so P (f ∷ fs) all = last_on_so P f (last_apart fs) all.0 (last_so P fs all.1)

behind_from : (all : List Source) (w : Sifted) (o : Out) → SiftedFrom all w → SiftedFrom all (behind_woken w o)
behind_from all w o from = by (last_apart w.woken) (last_so (FrameFrom all) w.woken from.0) where
  by : (r : List Frame × Option Frame) → LastSo (FrameFrom all) r → SiftedFrom all (behind_by w o r)
  by (fs, None) so = (so, from.1)
  by (fs, Some f) so = (all_append (FrameFrom all) fs (record f { after = f.after ++ o ∷ [] } ∷ []) so.0 (so.1, tt), from.1)

sent_from : (all : List Source) (row : Bool) (w : Sifted) (o : Out) → SiftedFrom all w → SiftedFrom all (sent_by row w o)
sent_from all true w o from = behind_from all w o from
sent_from all false w o from = from

filtered : {A : Type 0} (P : A → Type 0) (p : A → Bool) (xs : List A) → AllByRecursion P xs → AllByRecursion P (filter p xs)
filtered P p xs all = all_from P (filter p xs) (λ x inside. all_in P x xs all (in_filter_from p x xs inside).0)

found_from : (all : List Source) (o : Out) (ps : List Paused) → AllByRecursion (PausedFrom all) ps → IfSome (find (is_final o) ps) (PausedFrom all)
found_from all o ps from = by (find (is_final o) ps) (find_in (is_final o) ps) where
  by : (q : Option Paused) → IfSome q (λ p. IsIn p ps × (is_final o p ≡ true)) → IfSome q (PausedFrom all)
  by None inside = tt
  by (Some p) inside = all_in (PausedFrom all) p ps from inside.0

one_from : (all : List Source) (row : Bool) (w : Sifted) (o : Out) → SiftedFrom all w → SiftedFrom all (sift_one row w o)
unfolding sift_one
one_from all row w o from = by (find (is_final o) w.paused) (found_from all o w.paused from.1) where
  by : (q : Option Paused) → IfSome q (PausedFrom all) → SiftedFrom all (sifted_by row w o q)
  by None so = sent_from all row w o from
  by (Some p) so = (all_append (FrameFrom all) w.woken (woken p (message_in o) ∷ []) from.0 (woken_from all p (message_in o) so, tt), filtered (PausedFrom all) (λ q. not (is_final o q)) w.paused from.1)

sift_from : (all : List Source) (row : Bool) (w : Sifted) (os : List Out) → SiftedFrom all w → SiftedFrom all (sift_all row w os)
sift_from all row w [] from = from
sift_from all row w (o ∷ os) from = sift_from all row (sift_one row w o) os (one_from all row w o from)

sifted_from : (all : List Source) (row : Bool) (ps : List Paused) (os : List Out) → AllByRecursion (PausedFrom all) ps → SiftedFrom all (sifted row ps os)
sifted_from all row ps os from = sift_from all row (record { outs = []; woken = []; paused = ps }) os (tt, from)

-- ---- frames that go on

abbrev GoingFrom : List Source → Going → Type 0
GoingFrom all g = AllByRecursion (FrameFrom all) g.stack × AllByRecursion (PausedFrom all) g.paused

top_from : (all : List Source) (fs stack : List Frame) → AllByRecursion (FrameFrom all) fs → AllByRecursion (FrameFrom all) stack → AllByRecursion (FrameFrom all) (on_top fs stack)
top_from all [] stack above below = below
top_from all (f ∷ fs) stack above below = top_from all fs (f ∷ stack) above.1 (above.0, below)

settled_from : (all : List Source) (n : ℕ) (exports : Exports) (g : Gone) → GoingFrom all g.0 → GoingFrom all (settled_in n exports g).0
settled_from all n exports g from =
    let sent = (settled n exports g.1 g.2).0 in
    let so = sifted_from all false g.0.paused sent from.1 in
    (top_from all (sifted false g.0.paused sent).woken g.0.stack so.0 from.0, so.1)

part_from : (all : List Source) (g : Going) (f : Frame) (sent : List Out × Option Out) → GoingFrom all g → FrameFrom all f → GoingFrom all (part_in g f sent)
part_from all g f sent from its =
    let w = sifted true g.paused sent.0 in
    let a = answered f (message_or_none sent.1) in
    let so = sifted_from all true g.paused sent.0 from.1 in
    let is = answered_from all f (message_or_none sent.1) its in
    (all_append (FrameFrom all) w.woken (a.0 ∷ g.stack) so.0 (is.0, from.0), all_append (PausedFrom all) w.paused (listed a.1) so.1 is.1)

done_from : (all : List Source) (n : ℕ) (at : Ground) (g : Gone) (f : Frame) (message : List ℕ) (smb : Bool) → GoingFrom all g.0 → FrameFrom all f → GoingFrom all (part_done n at g f message smb).0
done_from all n at g f message true from its =
    let h = part_heard n at g.1 g.2 f.conn message in
    settled_from all n at.0 (after_part g.0 f h) (part_from all g.0 f (last_apart h.0) from its)
done_from all n at g f message false from its = part_from all g.0 f ([], None) from its

step_from : (all : List Source) (n : ℕ) (at : Ground) (g : Gone) (f : Frame) (next : Step) → GoingFrom all g.0 → FrameFrom all f → GoingFrom all (gone_on n at g f next).0
step_from all n at g f steps.Ends from its = from
step_from all n at g f (steps.Replied reply) from its = (((answered_from all f reply its).0, from.0), from.1)
step_from all n at g f (steps.Asked message) from its = done_from all n at g f message (is_smb (kind_of at.1 f.conn)) from its

abbrev PopFrom : List Source → Option Frame × List Frame → Type 0
PopFrom all (None, rest) = Unit {0}
PopFrom all (Some f, rest) = FrameFrom all f × AllByRecursion (FrameFrom all) rest

pop_from : (all : List Source) (stack : List Frame) → AllByRecursion (FrameFrom all) stack → PopFrom all (popped stack)
pop_from all [] from = tt
pop_from all (f ∷ fs) from = from

further_from : (all : List Source) (n : ℕ) (at : Ground) (g : Gone) → GoingFrom all g.0 → GoingFrom all (gone_further n at g).0
unfolding gone_further
further_from all n at g from = by (popped g.0.stack) (pop_from all g.0.stack from.0) where
  by : (p : Option Frame × List Frame) → PopFrom all p → GoingFrom all (advanced_by n at g p).0
  by (None, rest) its = from
  by (Some f, rest) its = step_from all n at (record g.0 { stack = rest }, g.1, g.2) f (next_step f) (its.1, from.1) its.0

-- ---- the message that is asked for

abbrev IsAsked : Frame → List ℕ → Type 0
IsAsked f message = (p : Part) × (part_at f.rest ≡ Some p) × ((before : Option Before) × (message ≡ resolved before p.bytes))

abbrev asked_or_none : Step → List ℕ
asked_or_none steps.Ends = []
asked_or_none (steps.Replied reply) = []
asked_or_none (steps.Asked message) = message

abbrev is_asked : Step → Bool
is_asked (steps.Asked message) = true
is_asked next = false

false_true : false ≡ true → ⊥
false_true e = cc

not_asked : (next : Step) (message : List ℕ) → is_asked next ≡ false → next ≡ steps.Asked message → ⊥
not_asked next message other e = false_true (sym other ∙ ap is_asked e)

judged_asked : (f : Frame) (message : List ℕ) (p : Part) → part_at f.rest ≡ Some p → (silent : Bool) (undone : Option ℕ) → (if silent then steps.Ends else judged f p undone) ≡ steps.Asked message → IsAsked f message
judged_asked f message p is true _ e = absurd (not_asked steps.Ends message refl e)
judged_asked f message p is false (Some status) e = absurd (not_asked (judged f p (Some status)) message refl e)
judged_asked f message p is false None e = (p, is, (taken_over p.head f.before, sym (ap asked_or_none e)))

asked_by : (f : Frame) (message : List ℕ) (last : Bool) (q : Option Part) → part_at f.rest ≡ q → (if last then steps.Ends else step_by f q) ≡ steps.Asked message → IsAsked f message
asked_by f message true q is e = absurd (not_asked steps.Ends message refl e)
asked_by f message false None is e = absurd (not_asked steps.Ends message refl e)
asked_by f message false (Some p) is e = judged_asked f message p is (is_silent f p) (undone_by f p) e

asked_is : (f : Frame) (message : List ℕ) → next_step f ≡ steps.Asked message → IsAsked f message
unfolding next_step
asked_is f message e = asked_by f message (f.left == 0) (part_at f.rest) refl e

part_of : (all : List Source) (f : Frame) (message : List ℕ) → FrameFrom all f → IsAsked f message → IsPartOf all (Message f.conn message)
part_of all f message (inl e) (p, is, how) = absurd (nothing f.rest p e is)
part_of all f message (inr (bytes, inside, (k, at))) (p, is, (before, same)) = (f.conn, bytes, inside, (k, p, ap (λ (b : List ℕ). part_at b) at ∙ is, (before, ap (λ (m : List ℕ). Message f.conn m) same)))

-- ---- the rounds of parts

abbrev OfFrames : List Source → List Round → Type 0
OfFrames all rs = AllByRecursion (λ r. IsPartOf all r.cause) rs

part_round : (all : List Source) (n : ℕ) (at : Ground) (g : Gone) (f : Frame) (message : List ℕ) (smb : Bool) → FrameFrom all f → next_step f ≡ steps.Asked message → OfFrames all (done_round n at g f.conn message smb)
part_round all n at g f message true its is = (part_of all f message its (asked_is f message is), tt)
part_round all n at g f message false its is = tt

step_of : (all : List Source) (n : ℕ) (at : Ground) (g : Gone) (f : Frame) (next : Step) → FrameFrom all f → next_step f ≡ next → OfFrames all (step_round n at g f next)
step_of all n at g f steps.Ends its is = tt
step_of all n at g f (steps.Replied reply) its is = tt
step_of all n at g f (steps.Asked message) its is = part_round all n at g f message (is_smb (kind_of at.1 f.conn)) its is

top_of : (all : List Source) (n : ℕ) (at : Ground) (g : Gone) (p : Option Frame × List Frame) → PopFrom all p → OfFrames all (top_round n at g p.0)
top_of all n at g (None, rest) its = tt
top_of all n at g (Some f, rest) its = step_of all n at g f (next_step f) its.0 refl

steps_of : (fuel : ℕ) (all : List Source) (n : ℕ) (at : Ground) (g : Gone) → GoingFrom all g.0 → OfFrames all (rounds_for fuel n at g)
steps_of zero all n at g from = tt
steps_of (suc fuel) all n at g from =
    all_append (λ (r : Round). IsPartOf all r.cause) (top_round n at g (popped g.0.stack).0) (rounds_for fuel n at (gone_further n at g)) (top_of all n at g (popped g.0.stack) (pop_from all g.0.stack from.0)) (steps_of fuel all n at (gone_further n at g) (further_from all n at g from))

-- ---- an entry

waits_from : (s : Whole) (event : Event) → AllByRecursion (PausedFrom (sources s event)) s.paused
waits_from s event =
    all_from (PausedFrom (sources s event)) s.paused
    (λ p inside. inr (p.rest, in_append_right (p.conn, p.rest) (brought_by event) (map (λ q. (q.conn, q.rest)) s.paused) (in_map (λ (q : Paused). (q.conn, q.rest)) p s.paused inside), (0, refl)))

after_from : (all : List Source) (ps : List Paused) (event : Event) → AllByRecursion (PausedFrom all) ps → AllByRecursion (PausedFrom all) (paused_after ps event)
after_from all ps (End number) from = filtered (PausedFrom all) (λ p. not (p.conn == number)) ps from
after_from all ps event from = from

opened_from : (all : List Source) (conn : ℕ) (bytes : List ℕ) → IsIn (conn, bytes) all → FrameFrom all (opened conn bytes)
unfolding opened
opened_from all conn bytes inside = by (is_over bytes) where
  by : (over : Bool) → FrameFrom all (if over then record { conn = conn; before = None; rest = []; left = 0; replies = refused_by (part_at bytes); after = [] } else record { conn = conn; before = None; rest = bytes; left = most_parts; replies = []; after = [] })
  by true = inl refl
  by false = inr (bytes, inside, (0, refl))

frame_from : (s : Whole) (event : Event) → GoingFrom (sources s event) (frame_in s.paused event)
frame_from s (Message number bytes) = ((opened_from (sources s (Message number bytes)) number bytes (inl refl), tt), waits_from s (Message number bytes))
frame_from s event = (tt, waits_from s event)

begun_from : (n : ℕ) (s : Whole) (event : Event) → GoingFrom (sources s event) (frames_begun n s event).0
unfolding frames_begun
begun_from n s event = by (brings_frame s.connections event) where
  by : (brings : Bool) → GoingFrom (sources s event) (begun_by n s event brings).0
  by true = frame_from s event
  by false =
      let h = heard n s event in
      let ps = paused_after s.paused event in
      let so = sifted_from (sources s event) true ps h.0 (after_from (sources s event) s.paused event (waits_from s event)) in
      settled_from (sources s event) n s.exports (after_hearing ps h) (so.0, so.1)

abbrev OfEvent : List Source → Event → Round → Type 0
OfEvent all event r = (r.cause ≡ event) ⊎ IsPartOf all r.cause

first_of : (n : ℕ) (s : Whole) (event : Event) (brings : Bool) → AllByRecursion (OfEvent (sources s event) event) (first_by n s event brings)
first_of n s event true = tt
first_of n s event false = (inl refl, tt)

-- each round is that of the event, or of a part
pub rounds_of_parts : (n : ℕ) (s : Whole) (event : Event) (plain : Bool) → AllByRecursion (λ r. (r.cause ≡ event) ⊎ IsPartOf (sources s event) r.cause) (rounds_by n s event plain)
rounds_of_parts n s event true = (inl refl, tt)
rounds_of_parts n s event false =
    let all = sources s event in
    let at : Ground = (s.exports, s.connections) in
    let g = frames_begun n s event in
    let rest = rounds_for (steps_left g.0) n at g in
    all_append (OfEvent all event) (first_round n s event) rest (first_of n s event (brings_frame s.connections event))
    (all_weaker (λ (r : Round). IsPartOf all r.cause) (OfEvent all event) rest (λ r is. inr is) (steps_of (steps_left g.0) all n at g (begun_from n s event)))
