-- What a served machine's run comes to.
use Rattle.std.specs.Prelude.{◌≡◌, ◌≢◌, ℕ, ◌<◌, Bool, true, false, ◌==◌, ◌||◌, List, [], length, map, Option, None, vec_len, vec_capacity, ◌≤◌}
use Rattle.std.specs.List.{AllByRecursion, list_any}
use Rattle.std.specs.Global.{Vec}
use Rattle.xl_base.specs.declared.event.Moment.{Moment}
use Rattle.xl_base.specs.declared.halt.Halt.{Halt}
use Rattle.xl_base.specs.declared.journal.Entry.{Entry}
use Rattle.xl_base.specs.declared.journal.Head.{Head}
use Rattle.xl_base.specs.declared.lane_end.LaneEnd.{LaneEnd}
use Rattle.xl_base.specs.declared.lane_end.LaneEnd.TheVariants as lane_end
use Rattle.xl_desk.specs.Turns.{AllStand, opened, times}
use Rattle.xl_desk.specs.declared.view.View.{View}
use Rattle.xl_house.specs.Serials.{MayHalt}
use Rattle.xl_work.specs.Crews.{IsCrewServed, TellsCaller, TellsLane}
use Rattle.xl_work.specs.declared.all.Crew.{Crew}
use Rattle.xl_work.specs.declared.all.CrewDone.{CrewDone}
use Rattle.xl_work.specs.declared.calls.CallsDone.{CallsDone}
use Rattle.xl_work.specs.declared.worker.LaneDone.{LaneDone}

-- ---- what is handed back

-- a lane that was given no turn
abbrev pub IsIdle : {L : Type 0} → LaneDone L → Type 0
IsIdle d = (d.end ≡ lane_end.Turns 0) × (d.conns.items ≡ [])

abbrev pub lanes_in : {L : Type 0} → List (LaneDone L) → List L
lanes_in done = map (λ d. d.lane) done

-- lanes that were given no turn
pub record AreIdle {L : Type 0} (lanes : List L) (done : List (LaneDone L)) : Type 0 where
  pub same : lanes_in done ≡ lanes
  pub idle : AllByRecursion IsIdle done

-- there is room for so many, and nothing stands in it yet
abbrev pub HasRoom : {L : Type 0} → Vec L → Vec (LaneDone L) → Type 0
HasRoom lanes room = (room.items ≡ []) × (vec_len room ≡ 0) × (vec_len lanes ≤ vec_capacity room)

-- memory ran out for a worker
abbrev pub is_starved : LaneEnd → Bool
is_starved lane_end.NoMemory = true
is_starved _ = false

-- memory ran out for one of the lanes or callers
abbrev pub has_starved : {L C : Type 0} → CrewDone L C → Bool
has_starved done = list_any (λ d. is_starved d.end) done.lanes.items || list_any (λ d. is_starved d.end) done.callers.items

abbrev pub callers_in : {C : Type 0} → List (CallsDone C) → List C
callers_in done = map (λ d. d.caller) done

-- ---- statuses

-- those of a machine that stepped: nothing stopped it, memory ran out, the journal is full; and besides one whose start failed
abbrev pub is_worked : ℕ → Bool
is_worked n = n == 0 || n == 6 || n == 7

abbrev pub is_over : ℕ → Bool
is_over n = n == 5 || is_worked n

-- those once the capture was written, or a part of it
abbrev pub is_concluded : ℕ → Bool
is_concluded n = n == 3 || is_over n

-- those of a machine that was served: done, a failed sink, a full journal
abbrev pub is_served : ℕ → Bool
is_served n = n == 0 || n == 3 || n == 7

-- ---- what was served

module _ {L C : Type 0} (tl : TellsLane L) (tc : TellsCaller C) where
  -- What lanes and callers made of a machine that had no entry: the journal's entries are their calls, each once, and no others. It
  -- sends to each link what it was sent, and asks for the calls that were made.
  pub record IsWorked (crew : Crew L C) (told told' : Option (List Moment)) (entries : List Entry) (halt : Option Halt) (done : CrewDone L C) : Type 0 where
    pub head : Head
    pub after : View Head
    pub by : IsCrewServed tl tc MayHalt true crew told (opened head 0 [] None) told' after done
    pub seen : after.seen ≡ entries
    pub stand : AllStand entries 0 after.mine
    pub once : (p : ℕ) → p < length entries → times p after.mine ≡ 1
    pub runs : halt ≡ None → after.halt ≡ None

  -- The same of what is handed back. The machine goes on, unless its journal is full; and memory ran out for nobody.
  pub record IsServedBy (crew : Crew L C) (told told' : Option (List Moment)) (status : ℕ) (entries : List Entry) (lanes : List (LaneDone L)) (callers : List C) : Type 0 where
    pub halt : Option Halt
    pub done : CrewDone L C
    pub worked : IsWorked crew told told' entries halt done
    pub runs : status ≢ 7 → halt ≡ None
    pub same_lanes : done.lanes.items ≡ lanes
    pub same_callers : callers_in done.callers.items ≡ callers
    pub fine : has_starved done ≡ false
