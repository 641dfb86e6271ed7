-- What lanes and callers that are served at once come to.
use Rattle.std.specs.Prelude.{◌≡◌, ℕ, ◌+◌, Bool, List, [], ◌∷◌, ◌++◌, length, Option, Some, IfSome}
use Rattle.xl_base.specs.declared.caller.Asked.{Asked}
use Rattle.xl_base.specs.declared.event.Event.{Event}
use Rattle.xl_base.specs.declared.event.Moment.{Moment}
use Rattle.xl_base.specs.declared.halt.Halt.{Halt}
use Rattle.xl_base.specs.declared.journal.Entry.{Entry}
use Rattle.xl_base.specs.declared.lane.Link.{Link}
use Rattle.xl_desk.specs.declared.view.View.{View}
use Rattle.xl_desk.specs.Passes.{Goes}
use Rattle.xl_work.specs.Calls.{CallerMade, IsEnd, RoseAtMost}
use Rattle.xl_work.specs.Lives.{LaneLeft, LaneTold, IsLaneEnd, IsQuiet, Tally, tally, is_whole}
use Rattle.xl_work.specs.Ticks.{AreTicks}
use Rattle.xl_work.specs.declared.all.Crew.{Crew}
use Rattle.xl_work.specs.declared.all.CrewDone.{CrewDone}
use Rattle.xl_work.specs.declared.calls.CallerPost.{CallerPost}
use Rattle.xl_work.specs.declared.calls.CallsDone.{CallsDone}
use Rattle.xl_work.specs.declared.worker.LaneDone.{LaneDone}
use Rattle.xl_work.specs.declared.worker.LanePost.{LanePost}

-- ---- passes

-- a halt that one pass has seen another has seen too, behind the same entries
abbrev pub Hears : {O : Type 0} → View O → View O → Type 0
Hears w v = IfSome w.halt (λ reason. (v.halt ≡ Some reason) × (v.seen ≡ w.seen))

-- ---- what a lane, and a caller, tells

pub record TellsLane (L : Type 0) : Type 0 where
  pub links : L → Option (List Link)
  pub counts : L → Tally

abbrev pub tells_lane : {L : Type 0} → (L → Option (List Link)) → (L → ℕ) → (L → ℕ) → (L → ℕ) → (L → Bool) → TellsLane L
tells_lane told asked lost faults ended = record { links = told; counts = tally asked lost faults ended }

pub record TellsCaller (C : Type 0) : Type 0 where
  pub calls : C → Option (List Asked)
  pub asked : C → ℕ

abbrev pub tells_caller : {C : Type 0} → (C → Option (List Asked)) → (C → ℕ) → TellsCaller C
tells_caller told asked = record { calls = told; asked = asked }

-- ---- what workers came to

-- the posts of the workers behind the first
abbrev pub next_lane : LanePost → LanePost
next_lane post = record post { place = post.place + 1 }

abbrev pub next_caller : CallerPost → CallerPost
next_caller post = record post { place = post.place + 1; share = post.share + 1 }

-- each of the workers, whose posts follow one another, came to what stands at its place, by calls of its own, which stand one
-- worker's behind another's
abbrev pub AreDone : {P W D : Type 0} → (P → P) → (P → W → D → List (ℕ × Event) → Type 0) → P → List W → List D → List (ℕ × Event) → Type 0
AreDone next is post [] [] calls = calls ≡ []
AreDone next is post [] (d ∷ ds) calls = ⊥
AreDone next is post (w ∷ ws) [] calls = ⊥
AreDone next is post (w ∷ ws) (d ∷ ds) calls = (mine : List (ℕ × Event)) × (rest : List (ℕ × Event)) × (calls ≡ mine ++ rest) × is post w d mine × AreDone next is (next post) ws ds rest

-- workers served at once, by the calls of the pass that was cut among them and joined again
pub record AreServed {O P W D : Type 0} (next : P → P) (is : View O → P → W → D → List (ℕ × Event) → Type 0) (post : P) (workers : List W) (before after : View O) (done : List D) : Type 0 where
  pub goes : Goes before after
  pub shares : after.shares ≡ before.shares
  pub calls : List (ℕ × Event)
  pub mine : after.mine ≡ before.mine ++ calls
  pub made : after.made ≡ before.made + length calls
  pub each : AreDone next (is after) post workers done calls

module _ {O L : Type 0} (t : TellsLane L) (may_halt : List Entry → Halt → Type 0) (open_gate : Bool) where
  -- what a lane left behind, and why it ended, after no more turns than its post has
  pub record LeavesLane (v : View O) (post : LanePost) (lane : L) (d : LaneDone L) (calls : List (ℕ × Event)) : Type 0 where
    pub left : LaneLeft 0 open_gate d.end v.first v.seen (t.links lane) (t.links d.lane) d.conns.items d.live calls
    pub end : IsLaneEnd may_halt open_gate post.turns v (t.counts lane) (t.counts d.lane) d.end
    pub most : RoseAtMost post.turns (t.counts lane).asked (t.counts d.lane).asked

  -- What a lane came to, and why it ended: a last link that it left open was sent the rest of what the journal sends to it, by one
  -- send more, which may have failed. It had no more turns than its post has.
  pub record DoesLane (v : View O) (post : LanePost) (lane : L) (d : LaneDone L) (calls : List (ℕ × Event)) : Type 0 where
    pub told : LaneTold 1 open_gate d.end v.first v.seen (t.links lane) (t.links d.lane) d.conns.items calls
    pub counts : Tally
    pub end : IsLaneEnd may_halt open_gate post.turns v (t.counts lane) counts d.end
    pub quiet : IsQuiet counts (t.counts d.lane)
    pub most : RoseAtMost post.turns (t.counts lane).asked (t.counts d.lane).asked

module _ {O C : Type 0} (t : TellsCaller C) (may_halt : List Entry → Halt → Type 0) (open_gate : Bool) where
  -- what a caller made, which had seen all before the place `start` at first, and why it ended, after no more turns than its post has
  pub record DoesCaller (start : ℕ) (v : View O) (post : CallerPost) (caller : C) (d : CallsDone C) (calls : List (ℕ × Event)) : Type 0 where
    pub made : CallerMade post start v.first v.seen (t.calls caller) (t.calls d.caller) calls
    pub end : IsEnd may_halt open_gate post.turns v (t.asked caller) (t.asked d.caller) d.end
    pub most : RoseAtMost post.turns (t.asked caller) (t.asked d.caller)

-- ---- the first lane

-- the first lane, with its clock: the readings that it entered stand behind its other calls
pub record IsFirstServed {O L : Type 0} (t : TellsLane L) (may_halt : List Entry → Halt → Type 0) (open_gate : Bool) (post : LanePost) (lane : L) (told : Option (List Moment)) (before : View O) (told' : Option (List Moment)) (after : View O) (d : LaneDone L) : Type 0 where
  pub goes : Goes before after
  pub shares : after.shares ≡ before.shares
  pub calls : List (ℕ × Event)
  pub entered : List (ℕ × Event)
  pub mine : after.mine ≡ before.mine ++ (calls ++ entered)
  pub made : after.made ≡ before.made + (length calls + length entered)
  pub leaves : LeavesLane t may_halt open_gate after post lane d calls
  pub ticks : AreTicks (is_whole open_gate d.end) (t.counts lane).asked (t.counts d.lane).asked told told' entered

-- ---- all

-- the readings that the first of the lanes entered; if there is no lane, the clock isn't read
abbrev pub AreFirstTicks : {L : Type 0} → TellsLane L → Bool → List L → List (LaneDone L) → Option (List Moment) → Option (List Moment) → List (ℕ × Event) → Type 0
AreFirstTicks t open_gate (l ∷ ls) (d ∷ ds) told told' calls = AreTicks (is_whole open_gate d.end) (t.counts l).asked (t.counts d.lane).asked told told' calls
AreFirstTicks t open_gate _ _ told told' calls = (calls ≡ []) × (told' ≡ told)

-- the posts of the first lane, and of the first caller
abbrev pub first_lane : {L C : Type 0} → Crew L C → LanePost
first_lane crew = record { place = 0; turns = crew.turns }

abbrev pub first_caller : {L C : Type 0} → Crew L C → CallerPost
first_caller crew = record { place = length crew.lanes.items; turns = crew.turns; share = 0; of = length crew.callers.items }

-- the lanes behind the first, of which the first one has this place, and the callers
pub record AreOthersServed {O L C : Type 0} (tl : TellsLane L) (tc : TellsCaller C) (may_halt : List Entry → Halt → Type 0) (open_gate : Bool) (crew : Crew L C) (place : ℕ) (before after : View O) (done : CrewDone L C) : Type 0 where
  pub goes : Goes before after
  pub shares : after.shares ≡ before.shares
  pub others : List (ℕ × Event)
  pub called : List (ℕ × Event)
  pub mine : after.mine ≡ before.mine ++ (others ++ called)
  pub made : after.made ≡ before.made + (length others + length called)
  pub lanes : AreDone next_lane (LeavesLane tl may_halt open_gate after) (record { place = place; turns = crew.turns }) crew.lanes.items done.lanes.items others
  pub callers : AreDone next_caller (DoesCaller tc may_halt open_gate (before.first + length before.seen) after) (record { place = place + length crew.lanes.items; turns = crew.turns; share = 0; of = length crew.callers.items }) crew.callers.items done.callers.items called

-- what all of them left behind, before the links that are open are sent the rest
pub record IsCrewLeft {O L C : Type 0} (tl : TellsLane L) (tc : TellsCaller C) (may_halt : List Entry → Halt → Type 0) (open_gate : Bool) (crew : Crew L C) (told : Option (List Moment)) (before : View O) (told' : Option (List Moment)) (after : View O) (done : CrewDone L C) : Type 0 where
  pub goes : Goes before after
  pub shares : after.shares ≡ before.shares
  pub first : List (ℕ × Event)
  pub entered : List (ℕ × Event)
  pub others : List (ℕ × Event)
  pub called : List (ℕ × Event)
  pub mine : after.mine ≡ before.mine ++ ((first ++ entered) ++ (others ++ called))
  pub made : after.made ≡ before.made + ((length first + length entered) + (length others + length called))
  pub lanes : AreDone next_lane (LeavesLane tl may_halt open_gate after) (first_lane crew) crew.lanes.items done.lanes.items (first ++ others)
  pub ticks : AreFirstTicks tl open_gate crew.lanes.items done.lanes.items told told' entered
  pub callers : AreDone next_caller (DoesCaller tc may_halt open_gate (before.first + length before.seen) after) (first_caller crew) crew.callers.items done.callers.items called

-- What lanes and callers came to: the pass's new calls are the lanes', the readings of the clock and the callers', and no others.
-- The pass has seen the whole journal, which each link was sent.
pub record IsCrewServed {O L C : Type 0} (tl : TellsLane L) (tc : TellsCaller C) (may_halt : List Entry → Halt → Type 0) (open_gate : Bool) (crew : Crew L C) (told : Option (List Moment)) (before : View O) (told' : Option (List Moment)) (after : View O) (done : CrewDone L C) : Type 0 where
  pub goes : Goes before after
  pub shares : after.shares ≡ before.shares
  pub whole : length after.seen ≡ after.start + after.made
  pub first : List (ℕ × Event)
  pub entered : List (ℕ × Event)
  pub others : List (ℕ × Event)
  pub called : List (ℕ × Event)
  pub mine : after.mine ≡ before.mine ++ ((first ++ entered) ++ (others ++ called))
  pub made : after.made ≡ before.made + ((length first + length entered) + (length others + length called))
  pub lanes : AreDone next_lane (DoesLane tl may_halt open_gate after) (first_lane crew) crew.lanes.items done.lanes.items (first ++ others)
  pub ticks : AreFirstTicks tl open_gate crew.lanes.items done.lanes.items told told' entered
  pub callers : AreDone next_caller (DoesCaller tc may_halt open_gate (before.first + length before.seen) after) (first_caller crew) crew.callers.items done.callers.items called
