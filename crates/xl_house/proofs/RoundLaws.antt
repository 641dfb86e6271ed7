-- What each round of an entry keeps of the fronts and the core, and what holds of each round where that is so.
use Rattle.std.proofs.Common.{◌≡◌, ℕ, zero, suc, Bool, true, false, List, Option, Some, None, sym, subst}
use Rattle.std.specs.List.{AllByRecursion}
use Rattle.xl_base.proofs.Members.{all_append}
use Rattle.xl_base.specs.declared.event.Event.{Event}
use Rattle.xl_base.specs.declared.event.Event.TheVariants.{Message}
use Rattle.xl_core.specs.Good.{IsGood}
use Rattle.xl_core.specs.State.{CoreState, step_begun}
use Rattle.xl_smb_frames.specs.Steps.{next_step}
use Rattle.xl_smb_frames.specs.declared.frame.Frame.{Frame}
use Rattle.xl_smb_frames.specs.declared.steps.Step.{Step}
use Rattle.xl_smb_frames.specs.declared.steps.Step.TheVariants as step
use Rattle.xl_house.specs.Done.{Round, done_round, first_by, first_round, round_of, rounds, rounds_by, rounds_for, step_round, top_round}
use Rattle.xl_house.specs.Journals.{is_restart}
use Rattle.xl_house.specs.Machine.{Gone, Ground, advanced_by, advanced_for, begun_by, found_in, frames_begun, gone, gone_by, gone_further, gone_on, heard, heard_in, is_plain, part_done, run, steps_left}
use Rattle.xl_house.specs.Sifting.{brings_frame, is_smb, popped}
use Rattle.xl_house.specs.State.{Whole, as_found, kind_of}
use Rattle.xl_house.specs.Telling.{settled}
use Rattle.xl_house.specs.declared.layers.Fronts.{Fronts}
use Rattle.xl_house.proofs.DoneLaws.{frames_good, further_good, rounds_are}

-- ---- what is kept

-- it holds once the event's round is over
abbrev pub LeftSo : (Fronts → CoreState → Type 0) → ℕ → Whole → Event → Type 0
LeftSo Inv n s event = (let h = heard n s event in let t = settled n s.exports h.1 h.2 in Inv t.1 t.2)

-- each round keeps it, in a good state
abbrev pub Keeps : ℕ → (Fronts → CoreState → Type 0) → Type 0
Keeps n Inv = (s : Whole) (event : Event) → IsGood s.core → Inv s.front s.core → LeftSo Inv n s event

part_keeps : (n : ℕ) (Inv : Fronts → CoreState → Type 0) → Keeps n Inv → (at : Ground) (g : Gone) (f : Frame) (message : List ℕ) (smb : Bool) → IsGood g.2 → Inv g.1 g.2 → Inv (part_done n at g f message smb).1 (part_done n at g f message smb).2
part_keeps n Inv keeps at g f message true good so = keeps (found_in at g.1 g.2) (Message f.conn message) good so
part_keeps n Inv keeps at g f message false good so = so

step_keeps : (n : ℕ) (Inv : Fronts → CoreState → Type 0) → Keeps n Inv → (at : Ground) (g : Gone) (f : Frame) (next : Step) → IsGood g.2 → Inv g.1 g.2 → Inv (gone_on n at g f next).1 (gone_on n at g f next).2
step_keeps n Inv keeps at g f step.Ends good so = so
step_keeps n Inv keeps at g f (step.Replied reply) good so = so
step_keeps n Inv keeps at g f (step.Asked message) good so = part_keeps n Inv keeps at g f message (is_smb (kind_of at.1 f.conn)) good so

further_keeps : (n : ℕ) (Inv : Fronts → CoreState → Type 0) → Keeps n Inv → (at : Ground) (g : Gone) → IsGood g.2 → Inv g.1 g.2 → Inv (gone_further n at g).1 (gone_further n at g).2
unfolding gone_further
further_keeps n Inv keeps at g good so = by (popped g.0.stack) where
  by : (p : Option Frame × List Frame) → Inv (advanced_by n at g p).1 (advanced_by n at g p).2
  by (None, rest) = so
  by (Some f, rest) = step_keeps n Inv keeps at (record g.0 { stack = rest }, g.1, g.2) f (next_step f) good so

steps_keep : (fuel n : ℕ) (Inv : Fronts → CoreState → Type 0) → Keeps n Inv → (at : Ground) (g : Gone) → IsGood g.2 → Inv g.1 g.2 → Inv (advanced_for fuel n at g).1 (advanced_for fuel n at g).2
steps_keep zero n Inv keeps at g good so = so
steps_keep (suc fuel) n Inv keeps at g good so = steps_keep fuel n Inv keeps at (gone_further n at g) (further_good n at g good) (further_keeps n Inv keeps at g good so)

begun_keeps : (n : ℕ) (Inv : Fronts → CoreState → Type 0) → Keeps n Inv → (s : Whole) (event : Event) → IsGood s.core → Inv s.front s.core → Inv (frames_begun n s event).1 (frames_begun n s event).2
unfolding frames_begun
begun_keeps n Inv keeps s event good so = by (brings_frame s.connections event) where
  by : (brings : Bool) → Inv (begun_by n s event brings).1 (begun_by n s event brings).2
  by true = so
  by false = keeps s event good so

-- so does an entry
pub gone_keeps : (n : ℕ) (Inv : Fronts → CoreState → Type 0) → Keeps n Inv → (s : Whole) (event : Event) → IsGood s.core → Inv s.front s.core → Inv (gone n s event).1 (gone n s event).2
unfolding gone heard_in run
gone_keeps n Inv keeps s event good so = by (is_plain s event) where
  by : (plain : Bool) → Inv (gone_by n s event plain).1 (gone_by n s event plain).2
  by true = keeps s event good so
  by false =
      let g = frames_begun n s event in
      steps_keep (steps_left g.0) n Inv keeps (s.exports, s.connections) g (frames_good n s event good) (begun_keeps n Inv keeps s event good so)

-- ---- what holds of each round

-- of the round of the event, and of each part, in a good state in which this holds
abbrev pub EachSo : ℕ → (Fronts → CoreState → Type 0) → Event → (Round → Type 0) → Type 0
EachSo n Inv event P = ((s : Whole) → IsGood s.core → Inv s.front s.core → P (round_of n s event)) × ((s : Whole) (conn : ℕ) (message : List ℕ) → IsGood s.core → Inv s.front s.core → P (round_of n s (Message conn message)))

part_so : (n : ℕ) (Inv : Fronts → CoreState → Type 0) (event : Event) (P : Round → Type 0) → EachSo n Inv event P → (at : Ground) (g : Gone) (conn : ℕ) (message : List ℕ) (smb : Bool) → IsGood g.2 → Inv g.1 g.2 → AllByRecursion P (done_round n at g conn message smb)
part_so n Inv event P law at g conn message true good so = (law.1 (found_in at g.1 g.2) conn message good so, tt)
part_so n Inv event P law at g conn message false good so = tt

step_so : (n : ℕ) (Inv : Fronts → CoreState → Type 0) (event : Event) (P : Round → Type 0) → EachSo n Inv event P → (at : Ground) (g : Gone) (f : Frame) (next : Step) → IsGood g.2 → Inv g.1 g.2 → AllByRecursion P (step_round n at g f next)
step_so n Inv event P law at g f step.Ends good so = tt
step_so n Inv event P law at g f (step.Replied reply) good so = tt
step_so n Inv event P law at g f (step.Asked message) good so = part_so n Inv event P law at g f.conn message (is_smb (kind_of at.1 f.conn)) good so

top_so : (n : ℕ) (Inv : Fronts → CoreState → Type 0) (event : Event) (P : Round → Type 0) → EachSo n Inv event P → (at : Ground) (g : Gone) (top : Option Frame) → IsGood g.2 → Inv g.1 g.2 → AllByRecursion P (top_round n at g top)
top_so n Inv event P law at g None good so = tt
top_so n Inv event P law at g (Some f) good so = step_so n Inv event P law at g f (next_step f) good so

steps_so : (fuel n : ℕ) (Inv : Fronts → CoreState → Type 0) (event : Event) (P : Round → Type 0) → Keeps n Inv → EachSo n Inv event P → (at : Ground) (g : Gone) → IsGood g.2 → Inv g.1 g.2 → AllByRecursion P (rounds_for fuel n at g)
steps_so zero n Inv event P keeps law at g good so = tt
steps_so (suc fuel) n Inv event P keeps law at g good so =
    all_append P (top_round n at g (popped g.0.stack).0) (rounds_for fuel n at (gone_further n at g))
    (top_so n Inv event P law at g (popped g.0.stack).0 good so)
    (steps_so fuel n Inv event P keeps law at (gone_further n at g) (further_good n at g good) (further_keeps n Inv keeps at g good so))

first_so : (n : ℕ) (Inv : Fronts → CoreState → Type 0) (event : Event) (P : Round → Type 0) → EachSo n Inv event P → (s : Whole) (brings : Bool) → IsGood s.core → Inv s.front s.core → AllByRecursion P (first_by n s event brings)
first_so n Inv event P law s true good so = tt
first_so n Inv event P law s false good so = (law.0 s good so, tt)

by_so : (n : ℕ) (Inv : Fronts → CoreState → Type 0) (event : Event) (P : Round → Type 0) → Keeps n Inv → EachSo n Inv event P → (s : Whole) (plain : Bool) → IsGood s.core → Inv s.front s.core → AllByRecursion P (rounds_by n s event plain)
by_so n Inv event P keeps law s true good so = (law.0 s good so, tt)
by_so n Inv event P keeps law s false good so =
    let g = frames_begun n s event in
    all_append P (first_round n s event) (rounds_for (steps_left g.0) n (s.exports, s.connections) g)
    (first_so n Inv event P law s (brings_frame s.connections event) good so)
    (steps_so (steps_left g.0) n Inv event P keeps law (s.exports, s.connections) g (frames_good n s event good) (begun_keeps n Inv keeps s event good so))

pub rounds_so : (n : ℕ) (Inv : Fronts → CoreState → Type 0) (s : Whole) (event : Event) (P : Round → Type 0) → is_restart event ≡ false → Keeps n Inv → EachSo n Inv event P → IsGood (step_begun s.core) → Inv s.front (step_begun s.core) → AllByRecursion P (rounds n s event)
rounds_so n Inv s event P other keeps law good so =
    subst (λ (rs : List Round). AllByRecursion P rs) (sym (rounds_are n s event other)) (by_so n Inv event P keeps law (as_found s) (is_plain s event) good so)
