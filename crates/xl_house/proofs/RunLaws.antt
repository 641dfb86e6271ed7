-- Frames that go on come to their ends.
use Rattle.std.proofs.Common.{◌≡◌, ℕ, zero, suc, ◌+◌, ◌-◌, ◌*◌, ◌<◌, ◌≤◌, Bool, true, false, not, ◌&&◌, ◌==◌, if◌then◌else◌, List, [], ◌∷◌, ◌++◌, find, filter, drop, Option, Some, None, Result, Ok, Err, refl, sym, ap, ap₂, subst, ◌∙◌, inl, inr, ◌⊎◌, IsTrue, ◌↔◌, arith}
use Rattle.std.proofs.lemmas.Bool.{both_ways}
use Rattle.std.proofs.lemmas.Bool.Decides.{nat_tests}
use Rattle.xl_base.specs.Limits.{most_numbers}
use Rattle.xl_base.specs.declared.event.Event.{Event}
use Rattle.xl_base.specs.declared.event.Event.TheVariants.{Message, End}
use Rattle.xl_base.specs.declared.event.Out.{Out}
use Rattle.xl_base.specs.declared.journal.Exports.{Exports}
use Rattle.xl_core.proofs.StoreLaws.{may_be_before, may_be_made}
use Rattle.xl_core.specs.Good.{IsGood}
use Rattle.xl_core.specs.Numbers.{numbers_of}
use Rattle.xl_core.specs.State.{CoreState, GoesOn, MayBe, step_begun}
use Rattle.xl_plan.proofs.BudgetLaws.{leaves_then, leaves_more}
use Rattle.xl_front_nlm.proofs.LeaveLaws.{leaves_self, leaves_short}
use Rattle.xl_front_nlm.specs.Short.{AreShort, IsReady, Leaves}
use Rattle.xl_smb.specs.Compounds.{Part, is_over, part_at}
use Rattle.xl_smb.specs.Heads.{head_of}
use Rattle.xl_smb.specs.Related.{is_related}
use Rattle.xl_smb.specs.declared.fault.SmbBad.{SmbBad}
use Rattle.xl_smb.specs.declared.head.SmbHead.{SmbHead}
use Rattle.xl_smb.specs.declared.related.Before.{Before}
use Rattle.xl_smb_state.specs.State.{is_empty}
use Rattle.xl_smb_frames.specs.Answers.{answered, answered_by, fewer, is_none, left_in, part_answered, paused, paused_with, reply_added, rest_of, said, turned, waits}
use Rattle.xl_smb_frames.specs.Frames.{opened}
use Rattle.xl_smb_frames.specs.Steps.{is_silent, judged, next_step, step_by, undone_by}
use Rattle.xl_smb_frames.specs.Waking.{woken, woken_by}
use Rattle.xl_smb_frames.specs.declared.frame.Frame.{Frame}
use Rattle.xl_smb_frames.specs.declared.frame.Paused.{Paused}
use Rattle.xl_smb_frames.specs.declared.steps.Step.{Step}
use Rattle.xl_smb_frames.specs.declared.steps.Step.TheVariants as step
use Rattle.xl_house.specs.Machine.{Gone, Ground, advanced_by, advanced_for, after_hearing, begun_by, cancelled_in, frame_in, frames_begun, gone, gone_by, gone_further, gone_on, heard, heard_in, is_plain, part_done, part_heard, part_in, paused_after, run, settled_in, sorted_in, steps_left}
use Rattle.xl_house.specs.Owing.{LeavesOwed}
use Rattle.xl_house.specs.Sifting.{behind_by, brings_frame, behind_woken, is_final, is_smb, last_apart, last_on, listed, message_in, message_or_none, on_top, paused_left, popped, sent_by, sift_all, sift_one, sifted, sifted_by, stack_left}
use Rattle.xl_house.specs.State.{Whole, kind_of}
use Rattle.xl_house.specs.Telling.{Sent, settled}
use Rattle.xl_house.specs.declared.connections.Connection.{Connection}
use Rattle.xl_house.specs.declared.frames.Going.{Going}
use Rattle.xl_house.specs.declared.frames.Sifted.{Sifted}
use Rattle.xl_house.specs.declared.layers.Fronts.{Fronts}
use Rattle.xl_house.proofs.HearLaws.{begun_numbers, begun_short}

-- ---- how many steps lists of frames may take

stack_append : (fs gs : List Frame) → stack_left (fs ++ gs) ≡ stack_left fs + stack_left gs
stack_append [] gs = omega arith
stack_append (f ∷ fs) gs = omega (arith, stack_append fs gs)

paused_append : (ps qs : List Paused) → paused_left (ps ++ qs) ≡ paused_left ps + paused_left qs
paused_append [] qs = omega arith
paused_append (p ∷ ps) qs = omega (arith, paused_append ps qs)

on_top_left : (fs stack : List Frame) → stack_left (on_top fs stack) ≡ stack_left fs + stack_left stack
on_top_left [] stack = omega arith
on_top_left (f ∷ fs) stack = omega (arith, on_top_left fs (f ∷ stack))

abbrev last_left : Option Frame → ℕ
last_left None = 0
last_left (Some f) = 2 * f.left + 1

apart_left : (fs : List Frame) → stack_left fs ≡ stack_left (last_apart fs).0 + last_left (last_apart fs).1
apart_left [] = refl
apart_left (f ∷ fs) = by (last_apart fs) (apart_left fs) where
  by : (p : List Frame × Option Frame) → stack_left fs ≡ stack_left p.0 + last_left p.1 → stack_left (f ∷ fs) ≡ stack_left (last_on f p).0 + last_left (last_on f p).1
  by (gs, None) e = omega (arith, e)
  by (gs, Some g) e = omega (arith, e)

-- ---- sifting

abbrev sifted_left : Sifted → ℕ
sifted_left w = stack_left w.woken + paused_left w.paused

behind_left : (w : Sifted) (o : Out) → sifted_left (behind_woken w o) ≡ sifted_left w
behind_left w o = by (last_apart w.woken) (apart_left w.woken) where
  by : (p : List Frame × Option Frame) → stack_left w.woken ≡ stack_left p.0 + last_left p.1 → sifted_left (behind_by w o p) ≡ sifted_left w
  by (gs, None) e = omega (arith, e)
  by (gs, Some g) e = omega (arith, e, stack_append gs (record g { after = g.after ++ o ∷ [] } ∷ []))

sent_left : (row : Bool) (w : Sifted) (o : Out) → sifted_left (sent_by row w o) ≡ sifted_left w
sent_left true w o = behind_left w o
sent_left false w o = refl

pub filter_less : (keep : Paused → Bool) (ps : List Paused) → paused_left (filter keep ps) ≤ paused_left ps
filter_less keep [] = omega arith
filter_less keep (p ∷ ps) = by (keep p) (filter_less keep ps) where
  by : (b : Bool) → paused_left (filter keep ps) ≤ paused_left ps → paused_left (if b then p ∷ filter keep ps else filter keep ps) ≤ paused_left (p ∷ ps)
  by true less = omega (arith, less)
  by false less = omega (arith, less)

taken_out : (test : Paused → Bool) (ps : List Paused) (p : Paused) → find test ps ≡ Some p → paused_left (filter (λ q. not (test q)) ps) + (2 * p.left + 1) ≤ paused_left ps
taken_out test [] p e = absurd cc
taken_out test (q ∷ qs) p e = by (test q) e (taken_out test qs p) where
  same : (x y : Paused) → Some x ≡ Some y → x ≡ y
  same x y e = cc

  by : (b : Bool) → (if b then Some q else find test qs) ≡ Some p → (find test qs ≡ Some p → paused_left (filter (λ r. not (test r)) qs) + (2 * p.left + 1) ≤ paused_left qs)
      → paused_left (if not b then q ∷ filter (λ r. not (test r)) qs else filter (λ r. not (test r)) qs) + (2 * p.left + 1) ≤ paused_left (q ∷ qs)
  by true e out = omega (arith, filter_less (λ r. not (test r)) qs, ap (λ (x : Paused). x.left) (same q p e))
  by false e out = omega (arith, out e)

woken_left : (p : Paused) (final : List ℕ) → (woken p final).left ≤ p.left
unfolding woken
woken_left p final = by (head_of final) where
  by : (r : Result SmbHead SmbBad) → (woken_by p final r).left ≤ p.left
  by (Err fault) = omega arith
  by (Ok h) = omega arith

one_left : (row : Bool) (w : Sifted) (o : Out) → sifted_left (sift_one row w o) ≤ sifted_left w
unfolding sift_one
one_left row w o = by (find (is_final o) w.paused) refl where
  by : (r : Option Paused) → find (is_final o) w.paused ≡ r → sifted_left (sifted_by row w o r) ≤ sifted_left w
  by None e = omega (arith, sent_left row w o)
  by (Some p) e = omega (arith, stack_append w.woken (woken p (message_in o) ∷ []), woken_left p (message_in o), taken_out (is_final o) w.paused p e)

all_left : (row : Bool) (w : Sifted) (os : List Out) → sifted_left (sift_all row w os) ≤ sifted_left w
all_left row w [] = omega arith
all_left row w (o ∷ os) = omega (arith, all_left row (sift_one row w o) os, one_left row w o)

-- frames that are woken take no more steps than what stood behind requests
pub sifting_left : (row : Bool) (ps : List Paused) (os : List Out) → sifted_left (sifted row ps os) ≤ paused_left ps
sifting_left row ps os = omega (arith, all_left row (record { outs = []; woken = []; paused = ps }) os)

-- ---- settling

pub sorted_left : (g : Going) (os : List Out) → steps_left (sorted_in g (sifted false g.paused os)) ≤ steps_left g
sorted_left g os = let w = sifted false g.paused os in omega (arith, sifting_left false g.paused os, on_top_left w.woken g.stack)

-- ---- a part is answered

fewer_less : (left : ℕ) (rest : List ℕ) → 1 ≤ left → fewer left rest + 1 ≤ left
fewer_less left [] some = omega (arith, some)
fewer_less left (b ∷ bs) some = omega (arith, some)

abbrev answer_left : Frame × Option Paused → ℕ
answer_left a = (2 * a.0.left + 1) + paused_left (listed a.1)

-- one of the parts that may be done is gone
answered_less : (f : Frame) (reply : List ℕ) → 1 ≤ f.left → answer_left (answered f reply) ≤ 2 * f.left
unfolding answered
answered_less f reply some = by (part_at f.rest) where
  waiting : (p : Part) (id : ℕ) (before : Option Before) → 1 + paused_left (listed (paused_with (record { conn = f.conn; before = f.before; left = f.left }) p id (rest_of p) before)) ≤ 2 * f.left
  waiting p id None = omega (arith, some)
  waiting p id (Some before) = omega (arith, some, fewer_less f.left (rest_of p) some)

  pausing : (p : Part) (id : ℕ) (before : Option Before) (alone : Bool) → 1 + paused_left (listed (if alone then None else paused_with (record { conn = f.conn; before = f.before; left = f.left }) p id (rest_of p) before)) ≤ 2 * f.left
  pausing p id before true = omega (arith, some)
  pausing p id before false = waiting p id before

  turning : (p : Part) (said : List ℕ) (before : Option Before) (id : Option ℕ) → answer_left (turned (record { conn = f.conn; before = f.before; left = f.left }) p (reply_added (record { replies = f.replies; after = f.after }) said) before id) ≤ 2 * f.left
  turning p said before None = omega (arith, some, fewer_less f.left (rest_of p) some)
  turning p said before (Some id) = pausing p id before (not (is_related p.head) && is_none (rest_of p))

  by : (p : Option Part) → answer_left (answered_by (record { conn = f.conn; before = f.before; left = f.left }) (record { replies = f.replies; after = f.after }) reply p) ≤ 2 * f.left
  by None = omega (arith, some)
  by (Some p) = turning p (said f.before p reply) (left_in f.before p (said f.before p reply)) (waits reply)

-- ---- a frame goes on

-- a frame that doesn't end may take a step
abbrev HasLeft : Step → ℕ → Type 0
HasLeft step.Ends left = Unit {0}
HasLeft (step.Replied reply) left = 1 ≤ left
HasLeft (step.Asked message) left = 1 ≤ left

has_left : (next : Step) (left : ℕ) → 1 ≤ left → HasLeft next left
has_left step.Ends left some = tt
has_left (step.Replied reply) left some = some
has_left (step.Asked message) left some = some

not_none : (left : ℕ) → (left == 0) ≡ false → 1 ≤ left
not_none left e = grind (arith, nat_tests, e)

next_left : (f : Frame) → HasLeft (next_step f) f.left
unfolding next_step
next_left f = by (f.left == 0) refl where
  by : (b : Bool) → (f.left == 0) ≡ b → HasLeft (if b then step.Ends else step_by f (part_at f.rest)) f.left
  by true e = tt
  by false e = has_left (step_by f (part_at f.rest)) f.left (not_none f.left e)

part_in_left : (g : Going) (f : Frame) (sent : List Out × Option Out) → 1 ≤ f.left → steps_left (part_in g f sent) ≤ steps_left g + 2 * f.left
part_in_left g f sent some =
    let w = sifted true g.paused sent.0 in
    let a = answered f (message_or_none sent.1) in
    omega (arith, sifting_left true g.paused sent.0, answered_less f (message_or_none sent.1) some, stack_append w.woken (a.0 ∷ g.stack), paused_append w.paused (listed a.1))

part_left : (n : ℕ) (at : Ground) (g : Gone) (f : Frame) (message : List ℕ) (smb : Bool) → 1 ≤ f.left → steps_left (part_done n at g f message smb).0 ≤ steps_left g.0 + 2 * f.left
part_left n at g f message true some =
    let done = part_heard n at g.1 g.2 f.conn message in
    let mid = part_in g.0 f (last_apart done.0) in
    omega (arith, part_in_left g.0 f (last_apart done.0) some, sorted_left mid (settled n at.0 done.1 done.2).0)
part_left n at g f message false some = part_in_left g.0 f ([], None) some

step_left : (n : ℕ) (at : Ground) (g : Gone) (f : Frame) (next : Step) → HasLeft next f.left → steps_left (gone_on n at g f next).0 ≤ steps_left g.0 + 2 * f.left
step_left n at g f step.Ends some = omega arith
step_left n at g f (step.Replied reply) some = omega (arith, answered_less f reply some)
step_left n at g f (step.Asked message) some = part_left n at g f message (is_smb (kind_of at.1 f.conn)) some

-- each step is one less
pub further_less : (n : ℕ) (at : Ground) (g : Gone) → (g.0.stack ≡ [] → ⊥) → steps_left (gone_further n at g).0 + 1 ≤ steps_left g.0
unfolding gone_further
further_less n at g some = by g.0.stack refl where
  by : (stack : List Frame) → g.0.stack ≡ stack → steps_left (advanced_by n at g (popped stack)).0 + 1 ≤ steps_left g.0
  by [] e = absurd (some e)
  by (f ∷ fs) e = omega (arith, ap stack_left e, step_left n at (record g.0 { stack = fs }, g.1, g.2) f (next_step f) (next_left f))

-- where no frame goes on nothing changes
pub none_further : (n : ℕ) (at : Ground) (g : Gone) → g.0.stack ≡ [] → gone_further n at g ≡ g
unfolding gone_further
none_further n at g e = ap (λ (stack : List Frame). advanced_by n at g (popped stack)) e

none_for : (fuel n : ℕ) (at : Ground) (g : Gone) → g.0.stack ≡ [] → advanced_for fuel n at g ≡ g
none_for zero n at g e = refl
none_for (suc fuel) n at g e = ap (λ (h : Gone). advanced_for fuel n at h) (none_further n at g e) ∙ none_for fuel n at g e

none_left : (stack : List Frame) → (stack ≡ [] → ⊥) → 1 ≤ stack_left stack
none_left [] some = absurd (some refl)
none_left (f ∷ fs) some = omega arith

is_none_left : (stack : List Frame) → stack_left stack ≤ 0 → stack ≡ []
is_none_left [] none = refl
is_none_left (f ∷ fs) none = absurd (omega (arith, none))

pub either : (stack : List Frame) → (stack ≡ []) ⊎ (stack ≡ [] → ⊥)
either [] = inl refl
either (f ∷ fs) = inr (λ e. absurd cc)

-- where as many steps may come as are left
pub same_for : (p q n : ℕ) (at : Ground) (g : Gone) → steps_left g.0 ≤ p → steps_left g.0 ≤ q → advanced_for p n at g ≡ advanced_for q n at g
same_for zero zero n at g few enough = refl
same_for zero (suc q) n at g few enough = sym (none_for (suc q) n at g (is_none_left g.0.stack (omega (arith, few))))
same_for (suc p) zero n at g few enough = none_for (suc p) n at g (is_none_left g.0.stack (omega (arith, enough)))
same_for (suc p) (suc q) n at g few enough =
    elim (either g.0.stack) [
      | inl e ↦ none_for (suc p) n at g e ∙ sym (none_for (suc q) n at g e)
      | inr some ↦ (let less = further_less n at g some in same_for p q n at (gone_further n at g) (omega (arith, less, few)) (omega (arith, less, enough)))
    ]

-- a step that is left is taken first
first_step : (k n : ℕ) (at : Ground) (g : Gone) → steps_left g.0 ≡ k → (g.0.stack ≡ [] → ⊥) → advanced_for k n at g ≡ run n at (gone_further n at g)
unfolding run
first_step zero n at g left some = absurd (omega (arith, left, none_left g.0.stack some))
first_step (suc k) n at g left some = same_for k (steps_left (gone_further n at g).0) n at (gone_further n at g) (omega (arith, left, further_less n at g some)) (omega arith)

pub run_steps : (n : ℕ) (at : Ground) (g : Gone) → (g.0.stack ≡ [] → ⊥) → run n at g ≡ run n at (gone_further n at g)
unfolding run
run_steps n at g some = first_step (steps_left g.0) n at g refl some

pub run_none : (n : ℕ) (at : Ground) (g : Gone) → g.0.stack ≡ [] → run n at g ≡ g
unfolding run
run_none n at g e = none_for (steps_left g.0) n at g e

-- ---- as the code goes on

-- what of the steps was done, and what is left of them, make up all of them; each may take three numbers
pub record Runs (at : Ground) (first now : Gone) : Type 0 where
  pub leaves : Leaves (3 * steps_left first.0) first.2 now.2
  pub owed : numbers_of now.2 + 3 * steps_left now.0 ≤ numbers_of first.2 + 3 * steps_left first.0
  pub ready : IsReady (3 * steps_left now.0) now.2
  pub same : (n : ℕ) → MayBe n now.2 → run n at first ≡ run n at now

pub run_begins : (at : Ground) (g : Gone) → IsReady (3 * steps_left g.0) g.2 → Runs at g g
run_begins at g ready = record { leaves = leaves_self g.2 (3 * steps_left g.0) (3 * steps_left g.0) ready; owed = omega arith; ready = ready; same = λ n may. refl }

-- one step of the code
abbrev pub IsStep : Ground → Gone → Gone → Type 0
IsStep at g h = (n : ℕ) → MayBe n h.2 → gone_further n at g ≡ h

pub run_less : (at : Ground) (g h : Gone) → (g.0.stack ≡ [] → ⊥) → IsStep at g h → steps_left h.0 < steps_left g.0
run_less at g h some step = omega (arith, further_less h.2.made at g some, ap (λ (x : Gone). steps_left x.0) (step h.2.made (may_be_made h.2)))

-- there are numbers for it
pub run_ready : (at : Ground) (first g : Gone) → (g.0.stack ≡ [] → ⊥) → Runs at first g → IsReady 3 g.2
run_ready at first g some runs = record { core = record { good = runs.ready.core.good; numbers = omega (arith, none_left g.0.stack some, runs.ready.core.numbers) }; short = runs.ready.short }

pub run_goes : (at : Ground) (first g h : Gone) → (g.0.stack ≡ [] → ⊥) → IsStep at g h → Leaves 3 g.2 h.2 → Runs at first g → Runs at first h
run_goes at first g h some step leaves runs =
    let less = run_less at g h some step in
    let both = leaves_then first.2 g.2 h.2 (3 * steps_left first.0) 3 runs.leaves leaves in
    let owed : numbers_of h.2 + 3 * steps_left h.0 ≤ numbers_of first.2 + 3 * steps_left first.0 = omega (arith, less, leaves.numbers, runs.owed) in
    record {
      leaves = record { on = both.on; good = both.good; numbers = omega (arith, owed); names = both.names };
      owed = owed;
      ready = record { core = record { good = leaves.good; numbers = omega (arith, less, leaves.numbers, runs.ready.core.numbers) }; short = leaves_short g.2 h.2 3 leaves runs.ready.short };
      same = λ n may. runs.same n (may_be_before n g.2 h.2 leaves.on may) ∙ run_steps n at g some ∙ ap (λ (x : Gone). run n at x) (step n may);
    }

-- where no frame is left they are at their ends
pub run_ends : (at : Ground) (first g : Gone) → g.0.stack ≡ [] → Runs at first g → (n : ℕ) → MayBe n g.2 → run n at first ≡ g
run_ends at first g e runs n may = runs.same n may ∙ run_none n at g e

-- the test of the loop
pub test_goes : (empty : Bool) (P : Type 0) → IsTrue empty ↔ P → empty ≡ false → P → ⊥
test_goes empty P is goes here = absurd (both_ways empty goes (is.1 here))

pub test_ends : (empty : Bool) (P : Type 0) → IsTrue empty ↔ P → empty ≡ true → P
test_ends empty P is ends = is.0 ends

-- ---- where frames begin

if_left : (most : ℕ) (b : Bool) (f g : Frame) → f.left ≤ most → g.left ≤ most → (if b then f else g).left ≤ most
if_left most true f g few enough = few
if_left most false f g few enough = enough

opened_left : (conn : ℕ) (bytes : List ℕ) → (opened conn bytes).left ≤ 64
unfolding opened
opened_left conn bytes = if_left 64 (is_over bytes) _ _ (omega arith) (omega arith)

-- a frame that comes may take so many steps
frame_left : (ps : List Paused) (e : Event) → steps_left (frame_in ps e) ≤ paused_left ps + 129
frame_left ps (Message number bytes) = omega (arith, opened_left number bytes)
frame_left ps e = omega arith

after_left : (ps : List Paused) (e : Event) → paused_left (paused_after ps e) ≤ paused_left ps
after_left ps (End number) = filter_less (λ p. not (p.conn == number)) ps
after_left ps e = omega arith

-- for which an entry has numbers
pub brought_owed : (s t : CoreState) (ps : List Paused) (e : Event) (g : Going) → t ≡ step_begun s → g ≡ frame_in ps e → numbers_of t + 3 * steps_left g ≤ numbers_of s + 3 * paused_left ps + most_numbers
brought_owed s t ps e g begun is = omega (arith, ap numbers_of begun ∙ begun_numbers s, ap steps_left is, frame_left ps e)

pub heard_owed : (n : ℕ) (exports : Exports) (s t x u : CoreState) (ps qs : List Paused) (e : Event) (outs : List Out) (mid g : Going) (f h : Fronts)
    → Leaves most_numbers (step_begun s) t → x ≡ t → Leaves 0 x u → qs ≡ paused_after ps e → mid ≡ cancelled_in (sifted true qs outs) → settled_in n exports (mid, f, x) ≡ (g, h, u)
    → numbers_of u + 3 * steps_left g ≤ numbers_of s + 3 * paused_left ps + most_numbers
heard_owed n exports s t x u ps qs e outs mid g f h leaves same later after is sorted =
    omega (arith, leaves.numbers, ap numbers_of same, later.numbers, begun_numbers s, ap paused_left after, after_left ps e, sifting_left true qs outs, ap steps_left is, sorted_left mid (settled n exports f x).0, ap (λ (r : Gone). steps_left r.0) sorted)

-- the frame that an event brings
pub brought_begun : (n : ℕ) (s : Whole) (e : Event) (g : Going) (t : CoreState) → brings_frame s.connections e ≡ true → g ≡ frame_in s.paused e → t ≡ s.core → frames_begun n s e ≡ (g, s.front, t)
unfolding frames_begun
brought_begun n s e g t brings is begun = ap (begun_by n s e) brings ∙ (λ i. (sym is i, s.front, sym begun i))

-- those that go on after another
pub heard_begun : (n : ℕ) (s : Whole) (e : Event) (qs : List Paused) (outs : List Out) (mid g : Going) (f y h : Fronts) (t x u : CoreState)
    → brings_frame s.connections e ≡ false → heard n s e ≡ (outs, f, t) → y ≡ f → x ≡ t → qs ≡ paused_after s.paused e → mid ≡ cancelled_in (sifted true qs outs) → settled_in n s.exports (mid, y, x) ≡ (g, h, u)
    → frames_begun n s e ≡ (g, h, u)
unfolding frames_begun
heard_begun n s e qs outs mid g f y h t x u brings hears front core after is sorted =
    ap (begun_by n s e) brings
    ∙ ap (λ (d : Sent). settled_in n s.exports (after_hearing (paused_after s.paused e) d)) hears
    ∙ ap (λ (ps : List Paused). settled_in n s.exports (after_hearing ps (outs, f, t))) (sym after)
    ∙ (λ i. settled_in n s.exports (sym is i, sym front i, sym core i))
    ∙ sorted

-- they go on to their ends
pub begun_runs : (n : ℕ) (s : Whole) (e : Event) (cs : List Connection) (mid last : Gone) → frames_begun n s e ≡ mid → cs ≡ s.connections → run n (s.exports, cs) mid ≡ last → heard_in n s e ≡ last
unfolding heard_in
begun_runs n s e cs mid last begun same ends = ap (λ (g : Gone). run n (s.exports, s.connections) g) begun ∙ ap (λ (connections : List Connection). run n (s.exports, connections) mid) (sym same) ∙ ends

-- there are numbers for all
pub begun_ready : (s t : CoreState) (g : Going) (ps : List Paused) → IsReady (most_numbers + 3 * paused_left ps) s → Leaves most_numbers (step_begun s) t → numbers_of t + 3 * steps_left g ≤ numbers_of s + 3 * paused_left ps + most_numbers → IsReady (3 * steps_left g) t
begun_ready s t g ps ready leaves owed =
    record { core = record { good = leaves.good; numbers = omega (arith, owed, ready.core.numbers) }; short = leaves_short (step_begun s) t most_numbers leaves (begun_short s ready.short) }

pub begun_leaves : (s t u : CoreState) (g last : Going) (ps : List Paused) → Leaves most_numbers (step_begun s) t → numbers_of t + 3 * steps_left g ≤ numbers_of s + 3 * paused_left ps + most_numbers → Leaves (3 * steps_left g) t u
    → numbers_of u + 3 * paused_left last.paused ≤ numbers_of t + 3 * steps_left g → LeavesOwed (paused_left ps) (paused_left last.paused) (step_begun s) u
begun_leaves s t u g last ps leaves owed later ends =
    let both = leaves_then (step_begun s) t u most_numbers (3 * steps_left g) leaves later in
    record { on = both.on; good = both.good; numbers = omega (arith, owed, ends, begun_numbers s); names = both.names }

-- ---- which way an event is heard

pub is_plain_so : (s : Whole) (e : Event) (none brings : Bool) → IsTrue none ↔ (s.paused ≡ []) → brings ≡ brings_frame s.connections e → none ≡ true → brings ≡ false → is_plain s e ≡ true
is_plain_so s e none brings is heard so not_so = ap₂ (λ (a : List Paused) (b : Bool). is_empty a && not b) (is.0 so) (sym heard ∙ not_so)

pub gone_plainly : (n : ℕ) (s : Whole) (e : Event) → is_plain s e ≡ true → gone n s e ≡ gone_by n s e true
unfolding gone
gone_plainly n s e plain = ap (gone_by n s e) plain
