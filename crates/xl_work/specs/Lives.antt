-- What a lane's worker made of its links.
use Rattle.std.specs.Prelude.{slice_get, ◌≡◌, ℕ, ◌+◌, ◌-◌, ◌<◌, ◌≤◌, ◌==◌, ◌||◌, not, Bool, true, false, List, [], ◌∷◌, ◌++◌, length, take, Option, Some, None, IfSome}
use Rattle.std.specs.List.{AllByRecursion}
use mathlib.Core.List.{IsPrefix}
use Rattle.xl_base.specs.Outs.{outs_to}
use Rattle.xl_base.specs.Memory.{counted}
use Rattle.xl_base.specs.Outside.{Rose}
use Rattle.xl_base.specs.Telling.{Follows}
use Rattle.xl_base.specs.declared.event.Event.{Event}
use Rattle.xl_base.specs.declared.event.Event.TheVariants.{Open, Message, End}
use Rattle.xl_base.specs.declared.event.Kind.{Kind}
use Rattle.xl_base.specs.declared.journal.Entry.{Entry}
use Rattle.xl_base.specs.declared.halt.Halt.{Halt}
use Rattle.xl_base.specs.declared.lane.Link.{Link}
use Rattle.xl_desk.specs.declared.fault.DeskErr.{DeskErr}
use Rattle.xl_desk.specs.declared.fault.DeskErr.TheVariants as desk
use Rattle.xl_desk.specs.declared.view.View.{View}
use Rattle.xl_desk.specs.Passes.{Goes}
use Rattle.xl_base.specs.Links.{fresh}
use Rattle.xl_base.specs.declared.lane_end.LaneEnd.{LaneEnd}
use Rattle.xl_base.specs.declared.lane_end.LaneEnd.TheVariants as lane_end
use Rattle.xl_frame.specs.Cutting.{Cutting, framed_of, without_first}
use Rattle.xl_frame.specs.Frames.{with_frames, frames}
use Rattle.xl_frame.specs.declared.fault.FrameBad.{FrameBad}
use Rattle.xl_work.specs.Calls.{IsCut, RoseBy}
use Rattle.xl_work.specs.declared.worker.Conn.{Conn}
use Rattle.xl_work.specs.declared.worker.Live.{Live}

-- ---- calls: how many entries stand before each, and its event

-- the messages among them, in order
abbrev pub with_message : Event → List (List ℕ) → List (List ℕ)
with_message (Message number bytes) more = bytes ∷ more
with_message _ more = more

abbrev pub messages_in : List (ℕ × Event) → List (List ℕ)
messages_in [] = []
messages_in (c ∷ cs) = with_message c.1 (messages_in cs)

-- whether an end is among them
abbrev pub is_end : Event → Bool
is_end (End number) = true
is_end _ = false

abbrev pub has_end : List (ℕ × Event) → Bool
has_end [] = false
has_end (c ∷ cs) = is_end c.1 || has_end cs

-- a message, or the end, of that connection
abbrev pub is_of : ℕ → Event → Bool
is_of number (Message other bytes) = other == number
is_of number (End other) = other == number
is_of number _ = false

-- the calls of a connection: its opening, whose place is its number, and then its messages and its end
pub record AreOf (first : ℕ) (c : Conn) (mine : List (ℕ × Event)) : Type 0 where
  pub at : ℕ
  pub rest : List (ℕ × Event)
  pub opens : mine ≡ (at, Open c.kind) ∷ rest
  pub number : c.number ≡ first + at
  pub own : AllByRecursion (λ call. is_of c.number call.1 ≡ true) rest

-- calls are those of these connections, one connection after another
abbrev pub AreOfAll : ℕ → List Conn → List (ℕ × Event) → Type 0
AreOfAll first [] calls = calls ≡ []
AreOfAll first (c ∷ cs) calls = (mine : List (ℕ × Event)) × (behind : List (ℕ × Event)) × (calls ≡ mine ++ behind) × AreOf first c mine × AreOfAll first cs behind

-- ---- links

abbrev pub is_bad : Option FrameBad → Bool
is_bad None = false
is_bad (Some fault) = true

-- why a connection ends: its link said its end, sent a bad frame, or had a call that failed
abbrev pub has_cause : Link → Bool
has_cause l = (l.ended || is_bad (frames l.kind l.taken).bad) || not (l.failed == 0)

-- the end of the connection of this number is among the entries, behind its place
abbrev pub HasEnded : ℕ → List Entry → ℕ → Type 0
HasEnded first log number = (before : List Entry) × (e : Entry) × (behind : List Entry) × (log ≡ before ++ e ∷ behind) × (e.event ≡ End number) × (number < first + length before)

-- The link of a connection that is over: its messages are the frames of what was taken; its end has a cause; it is shut; and it
-- was sent a beginning of what the journal sends to it, all if none of its calls failed (THREAD-10).
pub record IsOver (first : ℕ) (log : List Entry) (l : Link) (c : Conn) (mine : List (ℕ × Event)) : Type 0 where
  pub kind : l.kind ≡ c.kind
  pub cut : messages_in mine ≡ (frames l.kind l.taken).frames
  pub ends : has_end mine ≡ true
  pub cause : has_cause l ≡ true
  pub closed : HasEnded first log c.number
  pub shut : l.shut ≡ true
  pub sent : IsPrefix l.sent (outs_to c.number log)
  pub all : l.failed ≡ 0 → l.sent ≡ outs_to c.number log

-- links that are over, the newest in front, with their connections, the newest at the end, and the calls of all
abbrev pub AreOver : ℕ → List Entry → List Link → List Conn → List (ℕ × Event) → Type 0
AreOver first log [] conns calls = (conns ≡ []) × (calls ≡ [])
AreOver first log (l ∷ ls) conns calls = (earlier : List Conn) × (c : Conn) × (before : List (ℕ × Event)) × (mine : List (ℕ × Event)) × (conns ≡ earlier ++ c ∷ []) × (calls ≡ before ++ mine) × IsOver first log l c mine × AreOver first log ls earlier before

-- what a worker has in hand: nothing; a message of the link that is served; or a link that isn't opened yet
pub data Hand : Type 0 where
  Nothing : Hand
  Received : List ℕ → Hand
  Unopened : Kind → Hand

-- the messages in hand
abbrev pub held : Hand → List (List ℕ)
held (Received message) = message ∷ []
held _ = []

-- What was sent to a connection of this number is a beginning of what the journal sends to it: all up to a place, if none of so many
-- calls failed.
pub record IsSending (first : ℕ) (log : List Entry) (number place : ℕ) (has_failed : Bool) (failures : ℕ) (bytes : List ℕ) : Type 0 where
  pub opened : (first ≤ number) × (number < first + length log)
  pub from : (first ≤ place) × (place ≤ first + length log)
  pub failed : has_failed ≡ not (failures == 0)
  pub sent : IsPrefix bytes (outs_to number log)
  pub all : has_failed ≡ false → bytes ≡ outs_to number (take (place - first) log)

-- the same of a link that is served
abbrev pub IsSendingTo : ℕ → List Entry → Link → Live → Type 0
IsSendingTo first log l v = IsSending first log v.conn.number v.from v.failed l.failed l.sent

-- The link that is served now. A message of it may be in hand.
pub record IsLive (first : ℕ) (log : List Entry) (l : Link) (v : Live) (hand : Hand) (mine : List (ℕ × Event)) : Type 0 where
  pub kind : l.kind ≡ v.conn.kind
  pub cutter : v.cutter.kind ≡ v.conn.kind
  pub cut : with_frames (messages_in mine ++ held hand) (framed_of v.cutter) ≡ frames l.kind l.taken
  pub ends : has_end mine ≡ v.ended
  pub ending : v.ending ≡ (l.ended || is_bad v.cutter.bad)
  pub cause : v.ended ≡ true → (v.ending || v.failed) ≡ true
  pub closed : v.ended ≡ true → HasEnded first log v.conn.number
  pub shut : l.shut ≡ false
  pub sending : IsSendingTo first log l v

-- the links that a worker served, of which the newest is served still, or isn't opened yet
abbrev pub Serves : ℕ → List Entry → List Link → List Conn → Option Live → Hand → List (ℕ × Event) → Type 0
Serves first log links conns None Nothing calls = AreOver first log links conns calls
Serves first log links conns None (Received message) calls = ⊥
Serves first log links conns None (Unopened kind) calls = (opened : List Link) × (links ≡ fresh kind ∷ opened) × AreOver first log opened conns calls
Serves first log [] conns (Some v) hand calls = ⊥
Serves first log (l ∷ ls) conns (Some v) hand calls = (before : List (ℕ × Event)) × (mine : List (ℕ × Event)) × (calls ≡ before ++ mine) × IsLive first log l v hand mine × AreOver first log ls conns before

-- all connections of a worker
abbrev pub all_conns : List Conn → Option Live → List Conn
all_conns conns None = conns
all_conns conns (Some v) = conns ++ v.conn ∷ []

-- what a worker has made so far of its lane's links
pub record IsServing {O : Type 0} (told : Option (List Link)) (before : View O) (told' : Option (List Link)) (after : View O) (conns : List Conn) (live : Option Live) (hand : Hand) : Type 0 where
  pub goes : Goes before after
  pub shares : after.shares ≡ before.shares
  pub calls : List (ℕ × Event)
  pub mine : after.mine ≡ before.mine ++ calls
  pub made : after.made ≡ before.made + length calls
  pub own : AreOfAll after.first (all_conns conns live) calls
  pub links : Follows told told' (λ old new. (links : List Link) × (new ≡ links ++ old) × Serves after.first after.seen links conns live hand calls)

-- ---- what a lane comes to

-- If a connection's end is entered it has a cause. If it isn't, its link said no end and sent no bad frame, and no more of its
-- calls failed than so many.
abbrev pub Accounts : ℕ → Bool → Link → Type 0
Accounts late true l = has_cause l ≡ true
Accounts late false l = ((l.ended || is_bad (frames l.kind l.taken).bad) ≡ false) × (l.failed ≤ late)

-- A link at the end, with its connection and its calls: its messages are the first frames of what was taken, its end
-- has a cause, and it was sent a beginning of what the journal sends to it. It is shut only behind its end. In a whole
-- lane the messages are all frames, the end is there exactly if it has a cause, a failure of the last so many calls aside, and
-- then the link is shut. If memory didn't run out it was sent all, if none of its calls failed.
pub record IsTold (late : ℕ) (whole fine : Bool) (first : ℕ) (log : List Entry) (l : Link) (c : Conn) (mine : List (ℕ × Event)) : Type 0 where
  pub kind : l.kind ≡ c.kind
  pub cut : IsPrefix (messages_in mine) (frames l.kind l.taken).frames
  pub full : whole ≡ true → (messages_in mine ≡ (frames l.kind l.taken).frames) × Accounts late (has_end mine) l × (l.shut ≡ has_end mine)
  pub cause : has_end mine ≡ true → has_cause l ≡ true
  pub shut : l.shut ≡ true → has_end mine ≡ true
  pub sent : IsPrefix l.sent (outs_to c.number log)
  pub all : fine ≡ true → l.failed ≡ 0 → l.sent ≡ outs_to c.number log

-- links, the newest in front, with their connections, the newest at the end, and the calls of all
abbrev pub AreTold : ℕ → Bool → Bool → ℕ → List Entry → List Link → List Conn → List (ℕ × Event) → Type 0
AreTold late whole fine first log [] conns calls = (conns ≡ []) × (calls ≡ [])
AreTold late whole fine first log (l ∷ ls) conns calls = (earlier : List Conn) × (c : Conn) × (before : List (ℕ × Event)) × (mine : List (ℕ × Event)) × (conns ≡ earlier ++ c ∷ []) × (calls ≡ before ++ mine) × IsTold late whole fine first log l c mine × AreTold late whole fine first log ls earlier before

-- a last link whose opening was not entered; a whole lane has none
abbrev pub IsUnopened : Bool → List Link → Type 0
IsUnopened whole [] = Unit {0}
IsUnopened whole (l ∷ []) = (whole ≡ false) × (l ≡ fresh l.kind)
IsUnopened whole _ = ⊥

-- a lane that the gate lets pass always is whole, unless the machine stopped or memory ran out
abbrev pub is_whole : Bool → LaneEnd → Bool
is_whole open_gate (lane_end.Stopped reason count) = false
is_whole open_gate lane_end.NoMemory = false
is_whole open_gate _ = open_gate

abbrev pub is_fine : LaneEnd → Bool
is_fine lane_end.NoMemory = false
is_fine _ = true

-- what a lane came to in this journal: its calls are those of its connections, and of each link it tells what became of it
pub record LaneTold (late : ℕ) (open_gate : Bool) (end : LaneEnd) (first : ℕ) (log : List Entry) (told told' : Option (List Link)) (conns : List Conn) (calls : List (ℕ × Event)) : Type 0 where
  pub own : AreOfAll first conns calls
  pub links : Follows told told' (λ old new. (unopened : List Link) × (links : List Link) × (new ≡ (unopened ++ links) ++ old) × IsUnopened (is_whole open_gate end) unopened × AreTold late (is_whole open_gate end) (is_fine end) first log links conns calls)

-- what a lane came to by the calls of its pass
pub record IsServed {O : Type 0} (open_gate : Bool) (end : LaneEnd) (told : Option (List Link)) (before : View O) (told' : Option (List Link)) (after : View O) (conns : List Conn) : Type 0 where
  pub goes : Goes before after
  pub shares : after.shares ≡ before.shares
  pub calls : List (ℕ × Event)
  pub mine : after.mine ≡ before.mine ++ calls
  pub made : after.made ≡ before.made + length calls
  pub lane : LaneTold 0 open_gate end after.first after.seen told told' conns calls

-- ---- what a lane leaves behind

-- a link that a lane left open: as it is told, but that it is to be sent the rest still
pub record IsLeftOpen (late : ℕ) (whole : Bool) (first : ℕ) (log : List Entry) (l : Link) (v : Live) (mine : List (ℕ × Event)) : Type 0 where
  pub kind : l.kind ≡ v.conn.kind
  pub cut : IsPrefix (messages_in mine) (frames l.kind l.taken).frames
  pub full : whole ≡ true → (messages_in mine ≡ (frames l.kind l.taken).frames) × Accounts late (has_end mine) l × (l.shut ≡ has_end mine)
  pub cause : has_end mine ≡ true → has_cause l ≡ true
  pub shut : l.shut ≡ false
  pub sending : IsSendingTo first log l v

-- links of which all are over, but the newest if it was left open
abbrev pub AreLeft : ℕ → Bool → ℕ → List Entry → List Link → List Conn → Option Live → List (ℕ × Event) → Type 0
AreLeft late whole first log links conns None calls = AreOver first log links conns calls
AreLeft late whole first log [] conns (Some v) calls = ⊥
AreLeft late whole first log (l ∷ ls) conns (Some v) calls = (earlier : List Conn) × (before : List (ℕ × Event)) × (mine : List (ℕ × Event)) × (conns ≡ earlier ++ v.conn ∷ []) × (calls ≡ before ++ mine) × IsLeftOpen late whole first log l v mine × AreOver first log ls earlier before

-- a last link whose opening was not entered, with none left open
abbrev pub IsUnentered : Bool → Option Live → List Link → Type 0
IsUnentered whole live [] = Unit {0}
IsUnentered whole live (l ∷ []) = (live ≡ None) × (whole ≡ false) × (l ≡ fresh l.kind)
IsUnentered whole live _ = ⊥

-- what a lane leaves in this journal
pub record LaneLeft (late : ℕ) (open_gate : Bool) (end : LaneEnd) (first : ℕ) (log : List Entry) (told told' : Option (List Link)) (conns : List Conn) (live : Option Live) (calls : List (ℕ × Event)) : Type 0 where
  pub own : AreOfAll first conns calls
  pub place : IfSome live (λ l. (first ≤ l.from) × (l.from ≤ first + length log))
  pub links : Follows told told' (λ old new. (unentered : List Link) × (links : List Link) × (new ≡ (unentered ++ links) ++ old) × IsUnentered (is_whole open_gate end) live unentered × AreLeft late (is_whole open_gate end) first log links conns live calls)

-- What a lane leaves behind by the calls of its pass: a link that is left open was sent all that the pass has seen, unless a call
-- of it failed or memory ran out.
pub record IsLeft {O : Type 0} (open_gate : Bool) (end : LaneEnd) (told : Option (List Link)) (before : View O) (told' : Option (List Link)) (after : View O) (conns : List Conn) (live : Option Live) : Type 0 where
  pub goes : Goes before after
  pub shares : after.shares ≡ before.shares
  pub calls : List (ℕ × Event)
  pub mine : after.mine ≡ before.mine ++ calls
  pub made : after.made ≡ before.made + length calls
  pub caught : is_fine end ≡ true → IfSome live (λ l. l.failed ≡ false → l.from ≡ after.first + length after.seen)
  pub lane : LaneLeft 0 open_gate end after.first after.seen told told' conns live calls

-- the place up to which a link was sent all is one that the pass knows
abbrev pub HasPlace : {O : Type 0} → View O → Option Live → Type 0
HasPlace v live = IfSome live (λ l. (v.first ≤ l.from) × (l.from ≤ v.first + length v.seen))

-- the link was sent all that the pass has seen, unless a call of it failed
abbrev pub IsCaught : {O : Type 0} → View O → Option Live → Type 0
IsCaught v live = IfSome live (λ l. l.failed ≡ false → l.from ≡ v.first + length v.seen)

-- what of a link doesn't change while it is caught up, and while its messages are entered
abbrev pub still : Live → Conn × Cutting × Bool × Bool
still v = (v.conn, v.cutter, v.ending, v.ended)

abbrev pub steady : Live → Conn × Bool × Bool
steady v = (v.conn, v.ending, v.ended)

-- whether the link is over
abbrev pub is_over : Option Live → Bool
is_over None = false
is_over (Some v) = v.ending || v.failed

abbrev pub with_end : Live → Live
with_end v = record v { ended = true }

-- the first of the messages that are ready was taken, with the connection's number
abbrev pub IsTaken : Option Live → Option (ℕ × List ℕ) → Option Live → Type 0
IsTaken None message new = (message ≡ None) × (new ≡ None)
IsTaken (Some v) None new = (v.cutter.ready ≡ []) × (new ≡ Some (record v { cutter = without_first v.cutter }))
IsTaken (Some v) (Some message) new = (slice_get v.cutter.ready 0 ≡ Some message.1) × (message.0 ≡ v.conn.number) × (new ≡ Some (record v { cutter = without_first v.cutter }))

-- the link that is served has this number
abbrev pub IsAt : ℕ → Option Live → Type 0
IsAt number None = ⊥
IsAt number (Some v) = number ≡ v.conn.number

-- how many messages are ready
abbrev pub ready_in : Option Live → ℕ
ready_in None = 0
ready_in (Some v) = length v.cutter.ready

-- all messages of the link are entered, and its connection's end isn't
abbrev pub IsEmptied : Option Live → Type 0
IsEmptied live = IfSome live (λ l. (l.cutter.ready ≡ []) × (l.ended ≡ false))

-- its end is entered
abbrev pub IsClosing : Option Live → Type 0
IsClosing live = IfSome live (λ l. (l.ended ≡ true) × (l.cutter.ready ≡ []))

-- the number of its connection
abbrev pub number_in : Live → ℕ
number_in v = v.conn.number

-- nothing is left to do with a link, until it gives something
abbrev pub IsSettled : Option Live → Type 0
IsSettled live = IfSome live (λ l. (l.cutter.ready ≡ []) × (l.ending ≡ false) × (l.failed ≡ false) × (l.ended ≡ false))

-- among so many connections over, of so many that there is room for, there is room for that of the link that is served
abbrev pub HasRoom : ℕ → ℕ → Option Live → Type 0
HasRoom count capacity live = IfSome live (λ l. count < capacity)

-- the link is known after a step of it as it was before
abbrev pub Carries : Live → Live → Link → Link → Type 0
Carries v w l m = (first : ℕ) (log : List Entry) (mine : List (ℕ × Event)) → IsLive first log l v Nothing mine → IsLive first log m w Nothing mine

-- what was taken of a link in a step isn't known any more
abbrev pub Loses : Live → Link → Link → Type 0
Loses v l m = (first : ℕ) (log : List Entry) (mine : List (ℕ × Event)) → IsLive first log l v Nothing mine → IsLeftOpen 0 false first log m v mine

-- ---- why a lane ends

-- how a lane ends whose call was refused
abbrev pub end_of : DeskErr → LaneEnd
end_of (desk.Halted reason count) = lane_end.Stopped reason count
end_of (desk.Stopped reason count) = lane_end.Stopped reason count

-- in the midst of a turn: the machine is halted, memory ran out, or the gate held a call back until all turns were done
-- (THREAD-9)
abbrev pub IsBroken : {O : Type 0} → (List Entry → Halt → Type 0) → Bool → ℕ → View O → LaneEnd → Type 0
IsBroken may_halt open_gate turns v (lane_end.Turns n) = (n ≡ turns) × (open_gate ≡ false)
IsBroken may_halt open_gate turns v end = IsCut may_halt v end

-- a lane's counts: of waits for a link and for its bytes, of lost links, of faults; and whether it said that no link comes
-- any more
pub record Tally : Type 0 where
  pub asked : ℕ
  pub lost : ℕ
  pub faults : ℕ
  pub ended : Bool

abbrev pub tally : {A : Type 0} → (A → ℕ) → (A → ℕ) → (A → ℕ) → (A → Bool) → A → Tally
tally asked lost faults ended lane = record { asked = asked lane; lost = lost lane; faults = faults lane; ended = ended lane }

-- no link, and no bytes of one, were waited for
pub record IsQuiet (before after : Tally) : Type 0 where
  pub asked : after.asked ≡ before.asked
  pub lost : after.lost ≡ before.lost
  pub later : before.faults ≤ after.faults
  pub ended : after.ended ≡ before.ended

-- one wait was made, and no link was lost
pub record HasAsked (before after : Tally) : Type 0 where
  pub asked : after.asked ≡ counted before.asked
  pub lost : after.lost ≡ before.lost
  pub later : before.faults ≤ after.faults

-- the lane's own end, or a lost link, which its counts tell
abbrev pub IsOwnEnd : Tally → Tally → LaneEnd → Type 0
IsOwnEnd before after lane_end.End = after.ended ≡ true
IsOwnEnd before after (lane_end.Failed count) = (after.lost ≡ counted before.lost) × Rose before.faults after.faults × (count ≡ after.faults)
IsOwnEnd before after _ = ⊥

-- why a lane ends in a turn
abbrev pub IsTurnEnd : {O : Type 0} → (List Entry → Halt → Type 0) → Bool → ℕ → View O → Tally → Tally → LaneEnd → Type 0
IsTurnEnd may_halt open_gate turns v before after lane_end.End = IsOwnEnd before after lane_end.End × (after.asked ≡ counted before.asked)
IsTurnEnd may_halt open_gate turns v before after (lane_end.Failed count) = IsOwnEnd before after (lane_end.Failed count) × (after.asked ≡ counted before.asked)
IsTurnEnd may_halt open_gate turns v before after end = IsBroken may_halt open_gate turns v end

-- Why a lane ended: it said its end, lost a link, or was cut off; or all turns are done, in each of which a link or its
-- bytes were waited for if the gate is open.
abbrev pub IsLaneEnd : {O : Type 0} → (List Entry → Halt → Type 0) → Bool → ℕ → View O → Tally → Tally → LaneEnd → Type 0
IsLaneEnd may_halt open_gate turns v before after (lane_end.Turns n) = (n ≡ turns) × (open_gate ≡ true → RoseBy turns before.asked after.asked)
IsLaneEnd may_halt open_gate turns v before after lane_end.End = IsOwnEnd before after lane_end.End
IsLaneEnd may_halt open_gate turns v before after (lane_end.Failed count) = IsOwnEnd before after (lane_end.Failed count)
IsLaneEnd may_halt open_gate turns v before after end = IsCut may_halt v end
