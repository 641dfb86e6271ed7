-- A frame of several messages is its parts.
use Rattle.std.proofs.Common.{◌≡◌, ◌⊎◌, ◌==◌, ◌-◌, ◌&&◌, not, arith, ℕ, zero, suc, Bool, true, false, if◌then◌else◌, List, [], ◌∷◌, ◌++◌, Option, Some, None, refl, sym, ap, subst, ◌∙◌, append_assoc, append-nil}
use Rattle.std.specs.List.{AllByRecursion}
use Rattle.std.proofs.lemmas.Bool.Decides.{nat_tests}
use Rattle.xl_base.specs.declared.event.Dest.{Dest}
use Rattle.xl_base.specs.declared.event.Event.{Event}
use Rattle.xl_base.specs.declared.event.Event.TheVariants.{End, Message, Restart}
use Rattle.xl_base.specs.declared.event.Out.{Out}
use Rattle.xl_base.specs.declared.journal.Entry.{Entry}
use Rattle.xl_base.specs.declared.journal.Head.{Head}
use Rattle.xl_core.specs.State.{step_begun}
use Rattle.xl_smb.specs.Compounds.{Part, is_over, most_parts, part_at}
use Rattle.xl_smb.specs.Heads.{head_of}
use Rattle.xl_smb.specs.Related.{resolved, resolved_head, taken_over}
use Rattle.xl_smb.specs.declared.related.Before.{Before}
use Rattle.xl_smb_state.specs.State.{is_empty}
use Rattle.xl_smb_frames.specs.Answers.{answered, answered_by, fewer, left_in, part_answered, paused, reply_added, rest_of, said, turned, waits}
use Rattle.xl_smb_frames.specs.Frames.{frame_sent, is_alone, opened, refusal, refused_by}
use Rattle.xl_smb_frames.specs.Steps.{judged, next_step, step_by}
use Rattle.xl_smb_frames.specs.declared.frame.Frame.{Frame}
use Rattle.xl_smb_frames.specs.declared.frame.Paused.{Paused}
use Rattle.xl_smb_frames.specs.declared.steps.Step.{Step}
use Rattle.xl_smb_frames.specs.declared.steps.Step.TheVariants as steps
use Rattle.xl_house.specs.Done.{Round, done_round, first_by, first_round, round_of, rounds, rounds_by, rounds_for, rounds_in, step_round, top_round}
use Rattle.xl_house.specs.Journals.{IsLegal, is_restart, replay}
use Rattle.xl_house.specs.Lawful.{Always}
use Rattle.xl_house.specs.Machine.{Gone, Ground, Turn, advanced_by, advanced_for, after_hearing, answered_in, begun_by, cancelled_in, connected, found_in, frames_begun, gone, gone_by, gone_further, gone_on, heard, heard_in, is_plain, part_done, part_heard, paused_after, run, settled_in, step, steps_left, turn_of}
use Rattle.xl_house.specs.Parted.{AreInTurn, AreOfSmb, AreTheirParts, IsPartOf, IsParted, IsPartedBy, IsPartedOr, Left, Others, PartsDone, as_it_comes, behind_part, ended, first_part, frames_done, in_one_frame, is_silent, left_after, left_alone, none_done, part_by, parts_done, replied, rounds_run, sources, stands, why_undone}
use Rattle.xl_house.specs.Sifting.{brings_frame, is_smb, last_apart, listed, message_or_none, on_top, popped, sifted}
use Rattle.xl_house.specs.State.{Whole, as_found, kind_of, start_of}
use Rattle.xl_house.specs.Telling.{Sent, settled}
use Rattle.xl_house.specs.declared.connections.Connection.{Connection}
use Rattle.xl_house.proofs.GoingLaws as going
use Rattle.xl_house.proofs.OrderLaws.{ArePausedOn, IsOpen, Kept, kept_next, kept_start}
use Rattle.xl_house.proofs.PartCauses.{rounds_of_parts}
use Rattle.xl_house.proofs.RunLaws.{run_none}
use Rattle.xl_house.proofs.StackLaws.{RunsTo, above, below, no_rounds_run, one_step, runs_on, settled_below, with_frames}

-- ---- rounds in turn

-- these rounds lead from here to there
record Leads (n : ℕ) (w v : Left) (rs : List Round) : Type 0 where
  turns : AreInTurn n w rs
  left : left_after n w rs ≡ v

leads_append : (n : ℕ) (w v u : Left) (rs qs : List Round) → Leads n w v rs → Leads n v u qs → Leads n w u (rs ++ qs)
leads_append n w v u [] qs first later = subst (λ (x : Left). Leads n x u qs) (sym first.left) later
leads_append n w v u (r ∷ rs) qs first later =
    let rest = leads_append n (left_alone n r) v u rs qs (record { turns = first.turns.2; left = first.left }) later in
    record { turns = (first.turns.0, first.turns.1, rest.turns); left = rest.left }

abbrev of_gone : Gone → Left
of_gone g = (g.1, g.2)

part_leads : (n : ℕ) (at : Ground) (g : Gone) (f : Frame) (message : List ℕ) (smb : Bool) → Leads n (of_gone g) (of_gone (part_done n at g f message smb)) (done_round n at g f.conn message smb)
part_leads n at g f message true = record { turns = (refl, refl, tt); left = refl }
part_leads n at g f message false = record { turns = tt; left = refl }

step_leads : (n : ℕ) (at : Ground) (g : Gone) (f : Frame) (next : Step) → Leads n (of_gone g) (of_gone (gone_on n at g f next)) (step_round n at g f next)
step_leads n at g f steps.Ends = record { turns = tt; left = refl }
step_leads n at g f (steps.Replied reply) = record { turns = tt; left = refl }
step_leads n at g f (steps.Asked message) = part_leads n at g f message (is_smb (kind_of at.1 f.conn))

top_leads : (n : ℕ) (at : Ground) (g : Gone) → Leads n (of_gone g) (of_gone (gone_further n at g)) (top_round n at g (popped g.0.stack).0)
unfolding gone_further
top_leads n at g = by (popped g.0.stack) where
  by : (p : Option Frame × List Frame) → Leads n (of_gone g) (of_gone (advanced_by n at g p)) (top_round n at g p.0)
  by (None, rest) = record { turns = tt; left = refl }
  by (Some f, rest) = step_leads n at (record g.0 { stack = rest }, g.1, g.2) f (next_step f)

steps_lead : (fuel n : ℕ) (at : Ground) (g : Gone) → Leads n (of_gone g) (of_gone (advanced_for fuel n at g)) (rounds_for fuel n at g)
steps_lead zero n at g = record { turns = tt; left = refl }
steps_lead (suc fuel) n at g =
    leads_append n (of_gone g) (of_gone (gone_further n at g)) (of_gone (advanced_for fuel n at (gone_further n at g))) (top_round n at g (popped g.0.stack).0) (rounds_for fuel n at (gone_further n at g)) (top_leads n at g) (steps_lead fuel n at (gone_further n at g))

begun_leads : (n : ℕ) (s : Whole) (event : Event) → Leads n (s.front, s.core) (of_gone (frames_begun n s event)) (first_round n s event)
unfolding frames_begun
begun_leads n s event = by (brings_frame s.connections event) where
  by : (brings : Bool) → Leads n (s.front, s.core) (of_gone (begun_by n s event brings)) (first_by n s event brings)
  by true = record { turns = tt; left = refl }
  by false = record { turns = (refl, refl, tt); left = refl }

in_leads : (n : ℕ) (s : Whole) (event : Event) → Leads n (s.front, s.core) (of_gone (heard_in n s event)) (rounds_in n s event)
unfolding heard_in run
in_leads n s event =
    let at : Ground = (s.exports, s.connections) in
    let g = frames_begun n s event in
    leads_append n (s.front, s.core) (of_gone g) (of_gone (advanced_for (steps_left g.0) n at g)) (first_round n s event) (rounds_for (steps_left g.0) n at g) (begun_leads n s event) (steps_lead (steps_left g.0) n at g)

gone_leads : (n : ℕ) (s : Whole) (event : Event) (plain : Bool) → Leads n (s.front, s.core) (of_gone (gone_by n s event plain)) (rounds_by n s event plain)
gone_leads n s event true = record { turns = (refl, refl, tt); left = refl }
gone_leads n s event false = in_leads n s event

-- ---- a part and its message alone

pub heard_alone : (n conn : ℕ) (bytes : List ℕ) (s : Whole) → heard n (as_found s) (Message conn bytes) ≡ part_heard n (s.exports, s.connections) s.front (step_begun s.core) conn bytes
unfolding heard
heard_alone n conn bytes s = refl

-- ---- what frames come to

-- what a frame comes to by its parts, with these below it
abbrev ComesTo : ℕ → Ground → Frame → List Frame → Gone → PartsDone → Type 0
ComesTo n at f fs g d = RunsTo n at (with_frames (f ∷ fs) g) d.rounds (with_frames fs (replied f d))

not_empty_stack : (f : Frame) (fs : List Frame) → f ∷ fs ≡ [] → ⊥
not_empty_stack f fs e = cc

-- its last step
ends : (n : ℕ) (at : Ground) (f : Frame) (fs : List Frame) (g : Gone) → next_step f ≡ steps.Ends → ComesTo n at f fs g (none_done g)
unfolding gone_further frame_sent
ends n at f fs g e =
    one_step n at (with_frames (f ∷ fs) g) (with_frames fs (replied f (none_done g))) [] (not_empty_stack f fs)
    (ap (λ (next : Step). gone_on n at (with_frames fs g) f next) e
    ∙ (λ i. (record { paused = g.0.paused; stack = fs; outs = g.0.outs ++ (in_one_frame f.conn (sym (append-nil f.replies) i) ++ f.after) }, g.1, g.2)))
    (ap (λ (next : Step). step_round n at (with_frames (f ∷ fs) g) f next) e)

-- the frame behind a part that was answered
abbrev answered_so : Frame → Option Before → List ℕ → ℕ → List ℕ → Frame
answered_so f before rest left reply = record { conn = f.conn; before = before; rest = rest; left = left; replies = f.replies ++ reply ∷ []; after = f.after }

-- what follows behind an answer, once that stands before it
reply_first : (n : ℕ) (at : Ground) (f : Frame) (fs : List Frame) (from : Gone) (before : Option Before) (rest : List ℕ) (left : ℕ) (reply : List ℕ) (rs : List Round) (d : PartsDone)
    → RunsTo n at from rs (with_frames fs (replied (answered_so f before rest left reply) d)) → RunsTo n at from rs (with_frames fs (replied f (record d { replies = reply ∷ d.replies })))
reply_first n at f fs from before rest left reply rs d runs =
    subst (λ (all : List (List ℕ)). RunsTo n at from rs (with_frames fs (record d.gone.0 { outs = d.gone.0.outs ++ (in_one_frame f.conn all ++ f.after) }, d.gone.1, d.gone.2))) (append_assoc f.replies (reply ∷ []) d.replies) runs

-- one that is only answered, and what comes behind it
with_answer : (n : ℕ) (at : Ground) (f : Frame) (fs : List Frame) (g : Gone) (before : Option Before) (rest : List ℕ) (left : ℕ) (reply : List ℕ) (d : PartsDone)
    → gone_further n at (with_frames (f ∷ fs) g) ≡ with_frames (answered_so f before rest left reply ∷ fs) g → top_round n at (with_frames (f ∷ fs) g) (Some f) ≡ []
    → ComesTo n at (answered_so f before rest left reply) fs g d
    → ComesTo n at f fs g (record d { replies = reply ∷ d.replies })
with_answer n at f fs g before rest left reply d goes does more =
    let a = answered_so f before rest left reply in
    reply_first n at f fs (with_frames (f ∷ fs) g) before rest left reply d.rounds d
    (runs_on n at (with_frames (f ∷ fs) g) (with_frames (a ∷ fs) g) (with_frames fs (replied a d)) [] d.rounds
    (one_step n at (with_frames (f ∷ fs) g) (with_frames (a ∷ fs) g) [] (not_empty_stack f fs) goes does) more)

-- a part that was done, the frames that go on in between, and what comes behind them
with_message : (n : ℕ) (at : Ground) (f : Frame) (fs : List Frame) (g between : Gone) (before : Option Before) (rest : List ℕ) (left : ℕ) (reply : List ℕ) (r : Round) (d : PartsDone)
    → gone_further n at (with_frames (f ∷ fs) g) ≡ below (answered_so f before rest left reply ∷ fs) between → top_round n at (with_frames (f ∷ fs) g) (Some f) ≡ r ∷ []
    → ComesTo n at (answered_so f before rest left reply) fs (run n at between) d
    → ComesTo n at f fs g (record { gone = d.gone; rounds = r ∷ (rounds_run n at between ++ d.rounds); replies = reply ∷ d.replies })
with_message n at f fs g between before rest left reply r d goes does more =
    let a = answered_so f before rest left reply in
    let from = with_frames (f ∷ fs) g in
    let mid = below (a ∷ fs) between in
    let to = with_frames fs (replied a d) in
    reply_first n at f fs from before rest left reply (r ∷ (rounds_run n at between ++ d.rounds)) d
    (runs_on n at from mid to (r ∷ []) (rounds_run n at between ++ d.rounds)
    (one_step n at from mid (r ∷ []) (not_empty_stack f fs) goes does)
    (runs_on n at mid (with_frames (a ∷ fs) (run n at between)) to (rounds_run n at between) d.rounds (above n at between (a ∷ fs)) more))

-- ---- the part at the front

suc_some : (k : ℕ) → (suc k == 0) ≡ false
suc_some k = grind (arith, nat_tests)

suc_less : (k : ℕ) → suc k - 1 ≡ k
suc_less k = omega arith

left_none : (f : Frame) → f.left ≡ 0 → next_step f ≡ steps.Ends
unfolding next_step
left_none f e = ap (λ (l : ℕ). if l == 0 then steps.Ends else step_by f (part_at f.rest)) e

left_some : (f : Frame) (k : ℕ) (p : Option Part) → f.left ≡ suc k → part_at f.rest ≡ p → next_step f ≡ step_by f p
unfolding next_step
left_some f k p e is = (λ i. if e i == 0 then steps.Ends else step_by f (is i)) ∙ ap (λ (b : Bool). if b then steps.Ends else step_by f p) (suc_some k)

answers : (f : Frame) (reply : List ℕ) (p : Part) → part_at f.rest ≡ Some p → answered f reply ≡ part_answered (record { conn = f.conn; before = f.before; left = f.left }) p (record { replies = f.replies; after = f.after }) reply
unfolding answered
answers f reply p is = ap (λ (o : Option Part). answered_by (record { conn = f.conn; before = f.before; left = f.left }) (record { replies = f.replies; after = f.after }) reply o) is

no_part : part_at [] ≡ None
unfolding part_at head_of
no_part = refl

no_parts : (k n : ℕ) (at : Ground) (conn : ℕ) (before : Option Before) (g : Gone) → parts_done k n at conn before [] g ≡ none_done g
unfolding parts_done
no_parts zero n at conn before g = refl
no_parts (suc k) n at conn before g = ap (λ (p : Option Part). first_part (λ b rest h. parts_done k n at conn b rest h) (suc k) n at conn before g p) no_part

-- the frame behind a part that doesn't wait, and behind one that does
answered_on : (f : Frame) (k : ℕ) (p : Part) (reply : List ℕ) → f.left ≡ suc k → part_at f.rest ≡ Some p → waits reply ≡ None
    → answered f reply ≡ (answered_so f (left_in f.before p (said f.before p reply)) (rest_of p) (fewer (suc k) (rest_of p)) (said f.before p reply), None)
answered_on f k p reply e is none =
    let own = said f.before p reply in
    answers f reply p is
    ∙ ap (λ (w : Option ℕ). turned (record { conn = f.conn; before = f.before; left = f.left }) p (reply_added (record { replies = f.replies; after = f.after }) own) (left_in f.before p own) w) none
    ∙ ap (λ (l : ℕ). (answered_so f (left_in f.before p own) (rest_of p) (fewer l (rest_of p)) own, None)) e

answered_off : (f : Frame) (k : ℕ) (p : Part) (reply : List ℕ) (id : ℕ) → f.left ≡ suc k → part_at f.rest ≡ Some p → waits reply ≡ Some id
    → answered f reply ≡ (answered_so f f.before [] 0 (said f.before p reply), paused (record { conn = f.conn; before = f.before; left = suc k }) p id (rest_of p) (left_in f.before p (said f.before p reply)))
answered_off f k p reply id e is some =
    let own = said f.before p reply in
    answers f reply p is
    ∙ ap (λ (w : Option ℕ). turned (record { conn = f.conn; before = f.before; left = f.left }) p (reply_added (record { replies = f.replies; after = f.after }) own) (left_in f.before p own) w) some
    ∙ ap (λ (l : ℕ). (answered_so f f.before [] 0 own, paused (record { conn = f.conn; before = f.before; left = l }) p id (rest_of p) (left_in f.before p own))) e

-- ---- all parts

-- a frame of which so many parts may be done comes to these
abbrev Comes : ℕ → ℕ → Ground → Type 0
Comes k n at = (f : Frame) (fs : List Frame) (g : Gone) → is_smb (kind_of at.1 f.conn) ≡ true → f.left ≡ k → ComesTo n at f fs g (parts_done k n at f.conn f.before f.rest g)

abbrev others : ℕ → ℕ → Ground → ℕ → Others
others k n at conn = λ b rest h. parts_done k n at conn b rest h

follow : (k n : ℕ) (at : Ground) → Comes k n at → (f : Frame) (fs : List Frame) (g : Gone) (before : Option Before) (rest reply : List ℕ) → is_smb (kind_of at.1 f.conn) ≡ true
    → ComesTo n at (answered_so f before rest (fewer (suc k) rest) reply) fs g (parts_done k n at f.conn before rest g)
follow k n at comes f fs g before [] reply smb =
    subst (λ (d : PartsDone). ComesTo n at (answered_so f before [] 0 reply) fs g d) (sym (no_parts k n at f.conn before g)) (ends n at (answered_so f before [] 0 reply) fs g (left_none (answered_so f before [] 0 reply) refl))
follow k n at comes f fs g before (b ∷ bs) reply smb = comes (answered_so f before (b ∷ bs) (suc k - 1) reply) fs g smb (suc_less k)

-- a part that is only answered
replied_next : (n : ℕ) (at : Ground) (f : Frame) (fs : List Frame) (g : Gone) (refused : List ℕ) (a : Frame × Option Paused) → next_step f ≡ steps.Replied refused → answered f refused ≡ a
    → gone_further n at (with_frames (f ∷ fs) g) ≡ with_frames (a.0 ∷ fs) g
unfolding gone_further
replied_next n at f fs g refused a next is =
    ap (λ (step : Step). gone_on n at (with_frames fs g) f step) next ∙ ap (λ (b : Frame × Option Paused). with_frames (b.0 ∷ fs) g) is

only_comes : (k n : ℕ) (at : Ground) → Comes k n at → (f : Frame) (fs : List Frame) (g : Gone) (p : Part) (refused : List ℕ) → is_smb (kind_of at.1 f.conn) ≡ true → f.left ≡ suc k → part_at f.rest ≡ Some p → next_step f ≡ steps.Replied refused
    → (w : Option ℕ) → waits refused ≡ w → (let own = said f.before p refused in let rest = behind_part (others k n at f.conn) f.before p own g w in ComesTo n at f fs g (record rest { replies = own ∷ rest.replies }))
only_comes k n at comes f fs g p refused smb e is next None waiting =
    let own = said f.before p refused in
    let before = left_in f.before p own in
    let left = fewer (suc k) (rest_of p) in
    with_answer n at f fs g before (rest_of p) left own (parts_done k n at f.conn before (rest_of p) g)
    (replied_next n at f fs g refused (answered_so f before (rest_of p) left own, None) next (answered_on f k p refused e is waiting))
    (ap (λ (step : Step). step_round n at (with_frames (f ∷ fs) g) f step) next)
    (follow k n at comes f fs g before (rest_of p) own smb)
only_comes k n at comes f fs g p refused smb e is next (Some id) waiting =
    let own = said f.before p refused in
    with_answer n at f fs g f.before [] 0 own (none_done g)
    (replied_next n at f fs g refused (answered_so f f.before [] 0 own, _) next (answered_off f k p refused id e is waiting))
    (ap (λ (step : Step). step_round n at (with_frames (f ∷ fs) g) f step) next)
    (ends n at (answered_so f f.before [] 0 own) fs g (left_none (answered_so f f.before [] 0 own) refl))

-- what goes on behind a part that was heard so, before its frame does
abbrev between_of : ℕ → Ground → Gone → Sent → Option Paused → Gone
between_of n at g h stands =
    let w = sifted true g.0.paused (last_apart h.0).0 in
    settled_in n at.0 (record { paused = w.paused ++ listed stands; stack = w.woken; outs = g.0.outs ++ w.outs }, h.1, h.2)

-- a part that is done
asked_next : (n : ℕ) (at : Ground) (f : Frame) (fs : List Frame) (g : Gone) (message : List ℕ) (a : Frame × Option Paused) → is_smb (kind_of at.1 f.conn) ≡ true → next_step f ≡ steps.Asked message
    → (let h = part_heard n at g.1 g.2 f.conn message in answered f (message_or_none (last_apart h.0).1) ≡ a
    → gone_further n at (with_frames (f ∷ fs) g) ≡ below (a.0 ∷ fs) (between_of n at g h a.1))
unfolding gone_further
asked_next n at f fs g message a smb next is =
    let h = part_heard n at g.1 g.2 f.conn message in
    let w = sifted true g.0.paused (last_apart h.0).0 in
    let mid : Gone = (record { paused = w.paused ++ listed a.1; stack = w.woken; outs = g.0.outs ++ w.outs }, h.1, h.2) in
    ap (λ (step : Step). gone_on n at (with_frames fs g) f step) next
    ∙ ap (λ (b : Bool). part_done n at (with_frames fs g) f message b) smb
    ∙ ap (λ (b : Frame × Option Paused). settled_in n at.0 (answered_in (with_frames fs g).0 w.woken w.paused b w.outs, h.1, h.2)) is
    ∙ settled_below n at.0 mid (a.0 ∷ fs)

asked_round : (n : ℕ) (at : Ground) (f : Frame) (fs : List Frame) (g : Gone) (message : List ℕ) → is_smb (kind_of at.1 f.conn) ≡ true → next_step f ≡ steps.Asked message
    → top_round n at (with_frames (f ∷ fs) g) (Some f) ≡ round_of n (found_in at g.1 g.2) (Message f.conn message) ∷ []
asked_round n at f fs g message smb next =
    let from = with_frames (f ∷ fs) g in
    ap (λ (step : Step). step_round n at from f step) next ∙ ap (λ (b : Bool). done_round n at from f.conn message b) smb

message_comes : (k n : ℕ) (at : Ground) → Comes k n at → (f : Frame) (fs : List Frame) (g : Gone) (p : Part) (message : List ℕ) → is_smb (kind_of at.1 f.conn) ≡ true → f.left ≡ suc k → part_at f.rest ≡ Some p → next_step f ≡ steps.Asked message
    → (w : Option ℕ) → (let h = part_heard n at g.1 g.2 f.conn message in let reply = message_or_none (last_apart h.0).1 in let own = said f.before p reply in
    let between = between_of n at g h (stands (λ id. paused (record { conn = f.conn; before = f.before; left = suc k }) p id (rest_of p) (left_in f.before p own)) w) in
    let rest = behind_part (others k n at f.conn) f.before p own (run n at between) w in
    waits reply ≡ w → ComesTo n at f fs g (record rest { rounds = round_of n (found_in at g.1 g.2) (Message f.conn message) ∷ (rounds_run n at between ++ rest.rounds); replies = own ∷ rest.replies }))
message_comes k n at comes f fs g p message smb e is next None waiting =
    let h = part_heard n at g.1 g.2 f.conn message in
    let reply = message_or_none (last_apart h.0).1 in
    let own = said f.before p reply in
    let between = between_of n at g h None in
    let before = left_in f.before p own in
    let left = fewer (suc k) (rest_of p) in
    with_message n at f fs g between before (rest_of p) left own (round_of n (found_in at g.1 g.2) (Message f.conn message)) (parts_done k n at f.conn before (rest_of p) (run n at between))
    (asked_next n at f fs g message (answered_so f before (rest_of p) left own, None) smb next (answered_on f k p reply e is waiting))
    (asked_round n at f fs g message smb next)
    (follow k n at comes f fs (run n at between) before (rest_of p) own smb)
message_comes k n at comes f fs g p message smb e is next (Some id) waiting =
    let h = part_heard n at g.1 g.2 f.conn message in
    let reply = message_or_none (last_apart h.0).1 in
    let own = said f.before p reply in
    let behind = paused (record { conn = f.conn; before = f.before; left = suc k }) p id (rest_of p) (left_in f.before p own) in
    let between = between_of n at g h behind in
    with_message n at f fs g between f.before [] 0 own (round_of n (found_in at g.1 g.2) (Message f.conn message)) (none_done (run n at between))
    (asked_next n at f fs g message (answered_so f f.before [] 0 own, behind) smb next (answered_off f k p reply id e is waiting))
    (asked_round n at f fs g message smb next)
    (ends n at (answered_so f f.before [] 0 own) fs (run n at between) (left_none (answered_so f f.before [] 0 own) refl))

part_comes : (k n : ℕ) (at : Ground) → Comes k n at → (f : Frame) (fs : List Frame) (g : Gone) (p : Part) → is_smb (kind_of at.1 f.conn) ≡ true → f.left ≡ suc k → part_at f.rest ≡ Some p
    → (undone : Option ℕ) → next_step f ≡ judged f p undone → ComesTo n at f fs g (part_by (others k n at f.conn) (suc k) n at f.conn f.before p g undone)
part_comes k n at comes f fs g p smb e is (Some status) next =
    let refused = refusal (resolved_head (taken_over p.head f.before) p.head) status in
    only_comes k n at comes f fs g p refused smb e is next (waits refused) refl
part_comes k n at comes f fs g p smb e is None next =
    let message = resolved (taken_over p.head f.before) p.bytes in
    let h = part_heard n at g.1 g.2 f.conn message in
    message_comes k n at comes f fs g p message smb e is next (waits (message_or_none (last_apart h.0).1)) refl

silent_comes : (k n : ℕ) (at : Ground) → Comes k n at → (f : Frame) (fs : List Frame) (g : Gone) (p : Part) → is_smb (kind_of at.1 f.conn) ≡ true → f.left ≡ suc k → part_at f.rest ≡ Some p
    → (silent : Bool) → is_silent f.before p ≡ silent → ComesTo n at f fs g (if silent then none_done g else part_by (others k n at f.conn) (suc k) n at f.conn f.before p g (why_undone f.before p))
silent_comes k n at comes f fs g p smb e is true silent = ends n at f fs g (left_some f k (Some p) e is ∙ ap (λ (b : Bool). if b then steps.Ends else judged f p (why_undone f.before p)) silent)
silent_comes k n at comes f fs g p smb e is false speaks =
    part_comes k n at comes f fs g p smb e is (why_undone f.before p) (left_some f k (Some p) e is ∙ ap (λ (b : Bool). if b then steps.Ends else judged f p (why_undone f.before p)) speaks)

front_comes : (k n : ℕ) (at : Ground) → Comes k n at → (f : Frame) (fs : List Frame) (g : Gone) → is_smb (kind_of at.1 f.conn) ≡ true → f.left ≡ suc k
    → (q : Option Part) → part_at f.rest ≡ q → ComesTo n at f fs g (first_part (others k n at f.conn) (suc k) n at f.conn f.before g q)
front_comes k n at comes f fs g smb e None is = ends n at f fs g (left_some f k None e is)
front_comes k n at comes f fs g smb e (Some p) is = silent_comes k n at comes f fs g p smb e is (is_silent f.before p) refl

all_come : (k n : ℕ) (at : Ground) → Comes k n at
unfolding parts_done
all_come zero n at f fs g smb e = ends n at f fs g (left_none f e)
all_come (suc k) n at f fs g smb e = front_comes k n at (all_come k n at) f fs g smb e (part_at f.rest) refl

-- frames one after the other
frames_come : (n : ℕ) (at : Ground) (fs : List Frame) (g : Gone) → AreOfSmb at.1 fs → RunsTo n at (with_frames fs g) (frames_done n at g fs).1 (with_frames [] (frames_done n at g fs).0)
frames_come n at [] g smb = record { goes = refl; each = refl }
frames_come n at (f ∷ fs) g smb =
    let d = parts_done f.left n at f.conn f.before f.rest g in
    let rest = frames_done n at (replied f d) fs in
    runs_on n at (with_frames (f ∷ fs) g) (with_frames fs (replied f d)) (with_frames [] rest.0) d.rounds rest.1 (all_come f.left n at f fs g smb.0 refl) (frames_come n at fs (replied f d) smb.1)

-- so frames go on
pub frames_run : (n : ℕ) (at : Ground) (g : Gone) → AreOfSmb at.1 g.0.stack → (let d = frames_done n at g g.0.stack in (run n at g ≡ ended d.0) × (rounds_run n at g ≡ d.1))
frames_run n at g smb =
    let d = frames_done n at g g.0.stack in
    let come = frames_come n at g.0.stack g smb in
    let to : Gone = with_frames [] d.0 in
    (come.goes ∙ run_none n at to refl, come.each ∙ ap (λ (rs : List Round). d.1 ++ rs) (no_rounds_run n at to refl) ∙ append-nil d.1)

-- ---- an entry

step_is : (n : ℕ) (s : Whole) (event : Event) → is_restart event ≡ false → step n s event ≡ turn_of s (connected s.connections s.place event) (gone n (as_found s) event)
unfolding step
step_is n s Restart other = absurd cc
step_is n s event other = refl

rounds_are : (n : ℕ) (s : Whole) (event : Event) → is_restart event ≡ false → rounds n s event ≡ rounds_by n (as_found s) event (is_plain s event)
unfolding rounds
rounds_are n s Restart other = absurd cc
rounds_are n s event other = refl

gone_is : (n : ℕ) (s : Whole) (event : Event) → gone n s event ≡ gone_by n s event (is_plain s event)
unfolding gone
gone_is n s event = refl

in_is : (n : ℕ) (s : Whole) (event : Event) → heard_in n s event ≡ run n (s.exports, s.connections) (frames_begun n s event)
unfolding heard_in
in_is n s event = refl

-- what goes on comes to its parts
goes_on : (n : ℕ) (s : Whole) (event : Event) → is_restart event ≡ false → is_plain s event ≡ false → (first : List Round) → first_round n (as_found s) event ≡ first → (g : Gone) (fs : List Frame) → frames_begun n (as_found s) event ≡ with_frames fs g → AreOfSmb s.connections fs
    → AreTheirParts n s event first g fs (step n s event).outs (step n s event).next
goes_on n s event other goes first begins g fs is smb =
    let at : Ground = (s.exports, s.connections) in
    let d = frames_done n at g fs in
    let to : Gone = with_frames [] d.0 in
    let come = frames_come n at fs g smb in
    let all : gone n (as_found s) event ≡ to =
    gone_is n (as_found s) event
    ∙ ap (λ (plain : Bool). gone_by n (as_found s) event plain) goes
    ∙ in_is n (as_found s) event
    ∙ ap (λ (h : Gone). run n at h) is
    ∙ come.goes
    ∙ run_none n at to refl
    in
    let turn : step n s event ≡ turn_of s (connected s.connections s.place event) to = step_is n s event other ∙ ap (λ (h : Gone). turn_of s (connected s.connections s.place event) h) all in
    record {
      each = rounds_are n s event other
          ∙ ap (λ (plain : Bool). rounds_by n (as_found s) event plain) goes
          ∙ ap (λ (h : Gone). first_round n (as_found s) event ++ rounds_run n at h) is
          ∙ (λ i. begins i ++ come.each i)
          ∙ ap (λ (rs : List Round). first ++ (d.1 ++ rs)) (no_rounds_run n at to refl)
          ∙ ap (λ (rs : List Round). first ++ rs) (append-nil d.1);
      front = ap (λ (r : Turn). r.next.front) turn;
      core = ap (λ (r : Turn). r.next.core) turn;
      paused = ap (λ (r : Turn). r.next.paused) turn;
      outs = ap (λ (r : Turn). r.outs) turn;
    }

not_plain : (s : Whole) (event : Event) → brings_frame s.connections event ≡ true → is_plain s event ≡ false
not_plain s event brings = ap (λ (b : Bool). is_empty s.paused && not b) brings ∙ by (is_empty s.paused) where
  by : (b : Bool) → (b && not true) ≡ false
  by true = refl
  by false = refl

brought_is : (n : ℕ) (s : Whole) (conn : ℕ) (bytes : List ℕ) → brings_frame s.connections (Message conn bytes) ≡ true → frames_begun n s (Message conn bytes) ≡ (record { paused = s.paused; stack = opened conn bytes ∷ []; outs = [] }, s.front, s.core)
unfolding frames_begun
brought_is n s conn bytes brings = ap (λ (b : Bool). begun_by n s (Message conn bytes) b) brings

if_conn : (conn : ℕ) (b : Bool) (f g : Frame) → f.conn ≡ conn → g.conn ≡ conn → (if b then f else g).conn ≡ conn
if_conn conn true f g first other = first
if_conn conn false f g first other = other

opened_by : (conn : ℕ) (bytes : List ℕ) → (opened conn bytes).conn ≡ conn
unfolding opened
opened_by conn bytes =
    if_conn conn (is_over bytes) (record { conn = conn; before = None; rest = []; left = 0; replies = refused_by (part_at bytes); after = [] }) (record { conn = conn; before = None; rest = bytes; left = most_parts; replies = []; after = [] }) refl refl

brings_smb : (s : Whole) (conn : ℕ) (bytes : List ℕ) → brings_frame s.connections (Message conn bytes) ≡ true → is_smb (kind_of s.connections conn) ≡ true
brings_smb s conn bytes brings = by (is_smb (kind_of s.connections conn)) brings where
  by : (smb : Bool) → (smb && not (is_alone bytes)) ≡ true → smb ≡ true
  by true e = refl
  by false e = e

brought : (n : ℕ) (s : Whole) (event : Event) → is_restart event ≡ false → (conn : ℕ) (bytes : List ℕ) → event ≡ Message conn bytes → brings_frame s.connections event ≡ true → AreTheirParts n s event [] (as_it_comes s) (opened conn bytes ∷ []) (step n s event).outs (step n s event).next
brought n s event other conn bytes is brings =
    let now : brings_frame s.connections (Message conn bytes) ≡ true = subst (λ (e : Event). brings_frame s.connections e ≡ true) is brings in
    goes_on n s event other (not_plain s event brings) [] (ap (λ (b : Bool). first_by n (as_found s) event b) brings) (as_it_comes s) (opened conn bytes ∷ [])
    (ap (λ (e : Event). frames_begun n (as_found s) e) is ∙ brought_is n (as_found s) conn bytes now)
    (ap (λ (number : ℕ). is_smb (kind_of s.connections number)) (opened_by conn bytes) ∙ brings_smb s conn bytes now, tt)

-- ---- frames that go on behind final replies

begun_is : (n : ℕ) (s : Whole) (event : Event) → brings_frame s.connections event ≡ false → frames_begun n s event ≡ settled_in n s.exports (after_hearing (paused_after s.paused event) (heard n s event))
unfolding frames_begun
begun_is n s event brings = ap (λ (b : Bool). begun_by n s event b) brings

not_empty : (s : Whole) (event : Event) → is_empty s.paused ≡ false → is_plain s event ≡ false
not_empty s event some = ap (λ (b : Bool). b && not (brings_frame s.connections event)) some

-- what waits came by connections of SMB, and so did the frames that go on
abbrev anywhere : Dest → Type 0
anywhere d = Unit {0}

all_go : (os : List Out) → AllByRecursion (λ o. anywhere o.dest) os
all_go [] = tt
all_go (o ∷ os) = (tt, all_go os)

after_smb : (cs : List Connection) (ps : List Paused) (event : Event) → ArePausedOn cs ps → ArePausedOn cs (paused_after ps event)
after_smb cs ps (End number) on = going.all_filter (λ p. IsOpen cs p.conn) (λ p. not (p.conn == number)) ps on
after_smb cs ps event on = on

all_smb : (cs : List Connection) (fs : List Frame) → AllByRecursion (λ f. IsOpen cs f.conn × AllByRecursion (λ o. anywhere o.dest) f.after) fs → AreOfSmb cs fs
all_smb cs [] on = tt
all_smb cs (f ∷ fs) on = (ap is_smb on.0.0, all_smb cs fs on.1)

woken_smb : (cs : List Connection) (ps : List Paused) (heard_so settled_so : List Out) → ArePausedOn cs ps → (let cancelled = sifted true ps heard_so in AreOfSmb cs (on_top (sifted false cancelled.paused settled_so).woken cancelled.woken))
woken_smb cs ps heard_so settled_so on =
    let cancelled = sifted true ps heard_so in
    let first = going.sifted_on (IsOpen cs) anywhere (λ conn here. tt) true ps heard_so on (all_go heard_so) in
    let later = going.sifted_on (IsOpen cs) anywhere (λ conn here. tt) false cancelled.paused settled_so first.paused (all_go settled_so) in
    let sorted = going.sorted_on (IsOpen cs) anywhere (λ conn here. tt) (cancelled_in cancelled) (sifted false cancelled.paused settled_so) (record { paused = first.paused; stack = first.woken; outs = first.outs }) later in
    all_smb cs (on_top (sifted false cancelled.paused settled_so).woken cancelled.woken) sorted.stack

woken_on : (n : ℕ) (s : Whole) (event : Event) → is_restart event ≡ false → ArePausedOn s.connections s.paused → brings_frame s.connections event ≡ false → is_empty s.paused ≡ false
    → (let h = heard n (as_found s) event in let cancelled = sifted true (paused_after s.paused event) h.0 in let r = settled n s.exports h.1 h.2 in let served = sifted false cancelled.paused r.0 in
    let g : Gone = (record { paused = served.paused; stack = []; outs = cancelled.outs ++ served.outs }, r.1, r.2) in
    AreTheirParts n s event (round_of n (as_found s) event ∷ []) g (on_top served.woken cancelled.woken) (step n s event).outs (step n s event).next)
woken_on n s event other on brings some =
    let h = heard n (as_found s) event in
    let cancelled = sifted true (paused_after s.paused event) h.0 in
    let r = settled n s.exports h.1 h.2 in
    let served = sifted false cancelled.paused r.0 in
    goes_on n s event other (not_empty s event some) (round_of n (as_found s) event ∷ []) (ap (λ (b : Bool). first_by n (as_found s) event b) brings)
    (record { paused = served.paused; stack = []; outs = cancelled.outs ++ served.outs }, r.1, r.2) (on_top served.woken cancelled.woken) (begun_is n (as_found s) event brings)
    (woken_smb s.connections (paused_after s.paused event) h.0 r.0 (after_smb s.connections s.paused event on))

-- so is each entry
parted : (n : ℕ) (s : Whole) (event : Event) → is_restart event ≡ false → ArePausedOn s.connections s.paused → IsPartedBy n s event (step n s event).outs (step n s event).next
parted n s event other on =
    let leads = gone_leads n (as_found s) event (is_plain s event) in
    let rs = rounds_are n s event other in
    let turn = step_is n s event other in
    let from : Left = (s.front, step_begun s.core) in
    let ends : left_after n from (rounds n s event) ≡ of_gone (gone n (as_found s) event) =
    ap (λ (all : List Round). left_after n from all) rs ∙ leads.left ∙ ap of_gone (sym (gone_is n (as_found s) event))
    in
    record {
      turns = subst (λ (all : List Round). AreInTurn n from all) (sym rs) leads.turns;
      causes = subst (λ (all : List Round). AllByRecursion (λ r. (r.cause ≡ event) ⊎ IsPartOf (sources s event) r.cause) all) (sym rs) (rounds_of_parts n (as_found s) event (is_plain s event));
      left = (ap (λ (r : Turn). r.next.front) turn ∙ sym (ap (λ (w : Left). w.0) ends), ap (λ (r : Turn). r.next.core) turn ∙ sym (ap (λ (w : Left). step_begun w.1) ends));
      brought = brought n s event other;
      woken = woken_on n s event other on;
    }

parted_or : (n : ℕ) (s : Whole) (event : Event) → Kept s → IsPartedOr n s event (step n s event).outs (step n s event).next
parted_or n s Restart kept = tt
parted_or n s event kept = parted n s event refl kept.1

all_parted : (s : Whole) (es : List Entry) → Kept s → IsLegal s es → Always IsParted s es
all_parted s [] kept legal = tt
all_parted s (e ∷ es) kept legal =
    let t = step e.stores s e.event in
    (subst (λ (outs : List Out). IsPartedOr e.stores s e.event outs t.next) (sym legal.0.1) (parted_or e.stores s e.event kept), all_parted t.next es (kept_next e.stores s e.event kept) legal.1)

pub always_parted : (head : Head) (es : List Entry) → IsLegal (start_of head) es → Always IsParted (start_of head) es
always_parted head es legal = all_parted (start_of head) es (kept_start head) legal

kept_after : (s : Whole) (es : List Entry) → Kept s → Kept (replay s es)
kept_after s [] kept = kept
kept_after s (e ∷ es) kept = kept_after (step e.stores s e.event).next es (kept_next e.stores s e.event kept)

-- and so is one more
pub next_parted : (n : ℕ) (head : Head) (es : List Entry) (event : Event) → (let s = replay (start_of head) es in IsPartedOr n s event (step n s event).outs (step n s event).next)
next_parted n head es event = parted_or n (replay (start_of head) es) event (kept_after (start_of head) es (kept_start head))

-- ---- a machine that doesn't

some_round : (r : Round) (rs : List Round) → r ∷ rs ≡ [] → ⊥
some_round r rs e = cc

first_done : (k n : ℕ) (at : Ground) (conn : ℕ) (bytes : List ℕ) (g : Gone) (p : Part) → part_at bytes ≡ Some p → is_silent None p ≡ false → why_undone None p ≡ None → (parts_done (suc k) n at conn None bytes g).rounds ≡ [] → ⊥
unfolding parts_done
first_done k n at conn bytes g p is speaks does none =
    let does_it = part_by (others k n at conn) (suc k) n at conn None p g in
    some_round _ _
    (sym
    (ap (λ (q : Option Part). (first_part (others k n at conn) (suc k) n at conn None g q).rounds) is
    ∙ ap (λ (b : Bool). (if b then none_done g else does_it (why_undone None p)).rounds) speaks
    ∙ ap (λ (o : Option ℕ). (does_it o).rounds) does)
    ∙ none)

opened_as : (conn : ℕ) (bytes : List ℕ) → is_over bytes ≡ false → opened conn bytes ≡ record { conn = conn; before = None; rest = bytes; left = most_parts; replies = []; after = [] }
unfolding opened
opened_as conn bytes few = ap (λ (b : Bool). if b then record { conn = conn; before = None; rest = []; left = 0; replies = refused_by (part_at bytes); after = [] } else record { conn = conn; before = None; rest = bytes; left = most_parts; replies = []; after = [] }) few

-- one that does nothing of a frame
pub skipped_is : (n conn : ℕ) (bytes : List ℕ) (s t : Whole) (p : Part) (outs : List Out) → brings_frame s.connections (Message conn bytes) ≡ true → is_over bytes ≡ false → part_at bytes ≡ Some p → is_silent None p ≡ false → why_undone None p ≡ None → rounds n s (Message conn bytes) ≡ []
    → IsPartedBy n s (Message conn bytes) outs t → ⊥
skipped_is n conn bytes s t p outs brings few is speaks does none by =
    let at : Ground = (s.exports, s.connections) in
    let d = parts_done most_parts n at conn None bytes (as_it_comes s) in
    let goes = subst (λ (f : Frame). AreTheirParts n s (Message conn bytes) [] (as_it_comes s) (f ∷ []) outs t) (opened_as conn bytes few) (by.brought conn bytes refl brings) in
    first_done 63 n at conn bytes (as_it_comes s) p is speaks does (sym (append-nil d.rounds) ∙ sym goes.each ∙ none)
