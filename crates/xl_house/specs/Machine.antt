-- The machine: what one event does to the state, and what it sends.
use Rattle.std.specs.Prelude.{◌≡◌, ℕ, zero, suc, ◌+◌, min, Bool, true, false, not, ◌&&◌, ◌==◌, if◌then◌else◌, List, [], ◌∷◌, ◌++◌, map, filter, Option, Some, None}
use Rattle.xl_base.specs.Stable.{Stable, raised}
use Rattle.xl_base.specs.declared.event.Event.{Event}
use Rattle.xl_base.specs.declared.event.Event.TheVariants.{Open, Message, End, Restart}
use Rattle.xl_base.specs.declared.event.Kind.{Kind}
use Rattle.xl_base.specs.declared.event.Kind.TheVariants.{Smb}
use Rattle.xl_base.specs.declared.event.Out.{Out}
use Rattle.xl_base.specs.declared.journal.Exports.{Exports}
use Rattle.xl_core.specs.State.{CoreState, started, step_begun}
use Rattle.xl_smb_state.specs.State.{is_empty}
use Rattle.xl_smb_frames.specs.Answers.{answered}
use Rattle.xl_smb_frames.specs.Frames.{frame_sent, opened}
use Rattle.xl_smb_frames.specs.Steps.{next_step}
use Rattle.xl_smb_frames.specs.declared.frame.Frame.{Frame}
use Rattle.xl_smb_frames.specs.declared.frame.Paused.{Paused}
use Rattle.xl_smb_frames.specs.declared.steps.Step.{Step}
use Rattle.xl_smb_frames.specs.declared.steps.Step.TheVariants.{Ends, Replied, Asked}
use Rattle.xl_house.specs.Own.{Given, own_of}
use Rattle.xl_house.specs.Sifting.{brings_frame, is_smb, last_apart, listed, message_or_none, on_top, paused_left, popped, sifted, stack_left}
use Rattle.xl_house.specs.State.{Whole, as_found, kind_of, no_fronts, times_of, with_connection, without}
use Rattle.xl_house.specs.Telling.{Sent, all_shown, and_then, before, framed, framed_by, settled}
use Rattle.xl_house.specs.declared.connections.Connection.{Connection}
use Rattle.xl_house.specs.declared.frames.Going.{Going}
use Rattle.xl_house.specs.declared.frames.Sifted.{Sifted}
use Rattle.xl_house.specs.declared.layers.Fronts.{Fronts}

-- what an event gives: the next state, how many stores were made, the records that the keeper was given, in order, and what was
-- sent
pub record Turn : Type 0 where
  pub next : Whole
  pub made : ℕ
  pub given : List Stable
  pub outs : List Out

-- it gives these: the next state, how many stores were made, and what was sent
pub record Gives (turn : Turn) (left : Whole) (stores : ℕ) (sent : List Out) : Type 0 where
  pub next : turn.next ≡ left
  pub made : turn.made ≡ stores
  pub outs : turn.outs ≡ sent

-- ---- an event

-- what the connection speaks that it is replied to
abbrev pub replied_by : Whole → Event → Option Kind
replied_by s (Message number bytes) = kind_of s.connections number
replied_by s event = None

-- what the fronts show of it
abbrev pub telling : Exports → Given → Sent
telling exports g = all_shown exports g.2 g.3 g.1

-- and behind that its replies
abbrev pub sent_of : Exports → Option Kind → Given → Sent
sent_of exports kind g = before (telling exports g) (framed_by kind g.0)

-- what an event gives before the table is settled
unfoldable pub heard : ℕ → Whole → Event → Sent
heard n s event = sent_of s.exports (replied_by s event) (own_of n s event).given

-- the connections after the event at this place
unfoldable pub connected : List Connection → ℕ → Event → List Connection
connected connections place (Open kind) = with_connection connections place kind
connected connections place (End number) = without connections number
connected connections place _ = connections

-- what goes on of an entry, and the fronts and the core
abbrev pub Gone : Type 0
Gone = Going × Fronts × CoreState

-- what the entry leaves and sends; at a free moment the core has made no store
abbrev pub turn_of : Whole → List Connection → Gone → Turn
turn_of s connections g = record { next = record { exports = s.exports; place = s.place + 1; connections = connections; paused = g.0.paused; front = g.1; core = step_begun g.2 }; made = g.2.made; given = g.2.given; outs = g.0.outs }

-- ---- frames of several messages

-- once the table is settled the frames of those who were served are on top of the others, the last of them first (SMB-35)
abbrev pub sorted_in : Going → Sifted → Going
sorted_in g w = record { paused = w.paused; stack = on_top w.woken g.stack; outs = g.outs ++ w.outs }

abbrev pub after_settling : Going → Sent → Gone
after_settling g done = (sorted_in g (sifted false g.paused done.0), done.1, done.2)

abbrev pub settled_in : ℕ → Exports → Gone → Gone
settled_in n exports g = after_settling g.0 (settled n exports g.1 g.2)

-- what is exported, and the open connections
abbrev pub Ground : Type 0
Ground = Exports × List Connection

-- the state that a part finds, as a message alone; no message looks at a place, nor at what stands behind others
abbrev pub found_in : Ground → Fronts → CoreState → Whole
found_in at f s = record { exports = at.0; place = 0; connections = at.1; paused = []; front = f; core = s }

abbrev pub part_heard : ℕ → Ground → Fronts → CoreState → ℕ → List ℕ → Sent
part_heard n at f s conn message = heard n (found_in at f s) (Message conn message)

-- A part is answered: its reply stands in its frame, what it gives besides is sent at once, and whom it cancelled go on before
-- the frame does, the first of them first (SMB-36).
abbrev pub answered_in : Going → List Frame → List Paused → Frame × Option Paused → List Out → Going
answered_in g woken paused a outs = record { paused = paused ++ listed a.1; stack = woken ++ a.0 ∷ g.stack; outs = g.outs ++ outs }

abbrev pub sifted_in : Going → Frame → Sifted → Option Out → Going
sifted_in g f w own = answered_in g w.woken w.paused (answered f (message_or_none own)) w.outs

abbrev pub part_in : Going → Frame → List Out × Option Out → Going
part_in g f sent = sifted_in g f (sifted true g.paused sent.0) sent.1

abbrev pub after_part : Going → Frame → Sent → Gone
after_part g f done = (part_in g f (last_apart done.0), done.1, done.2)

-- a part is done as a message alone, and the table is settled; each comes by a connection of SMB
abbrev pub part_done : ℕ → Ground → Gone → Frame → List ℕ → Bool → Gone
part_done n at g f message true = settled_in n at.0 (after_part g.0 f (part_heard n at g.1 g.2 f.conn message))
part_done n at g f message false = (part_in g.0 f ([], None), g.1, g.2)

-- the next part of the topmost frame is done, or its replies are sent if there is none
abbrev pub gone_on : ℕ → Ground → Gone → Frame → Step → Gone
gone_on n at g f Ends = (record g.0 { outs = g.0.outs ++ (map (framed Smb) (frame_sent f) ++ f.after) }, g.1, g.2)
gone_on n at g f (Replied reply) = (record g.0 { stack = (answered f reply).0 ∷ g.0.stack }, g.1, g.2)
gone_on n at g f (Asked message) = part_done n at g f message (is_smb (kind_of at.1 f.conn))

abbrev pub advanced_by : ℕ → Ground → Gone → Option Frame × List Frame → Gone
advanced_by n at g (None, rest) = g
advanced_by n at g (Some f, rest) = gone_on n at (record g.0 { stack = rest }, g.1, g.2) f (next_step f)

unfoldable pub gone_further : ℕ → Ground → Gone → Gone
gone_further n at g = advanced_by n at g (popped g.0.stack)

-- so many steps
abbrev pub advanced_for : ℕ → ℕ → Ground → Gone → Gone
advanced_for zero n at g = g
advanced_for (suc fuel) n at g = advanced_for fuel n at (gone_further n at g)

abbrev pub steps_left : Going → ℕ
steps_left g = stack_left g.stack + paused_left g.paused

-- all frames go on, to their ends
unfoldable pub run : ℕ → Ground → Gone → Gone
run n at g = advanced_for (steps_left g.0) n at g

-- a frame that a message brings
abbrev pub frame_in : List Paused → Event → Going
frame_in paused (Message number bytes) = record { paused = paused; stack = opened number bytes ∷ []; outs = [] }
frame_in paused event = record { paused = paused; stack = []; outs = [] }

-- what stands behind requests that came by a connection goes with it
abbrev pub paused_after : List Paused → Event → List Paused
paused_after ps (End number) = filter (λ p. not (p.conn == number)) ps
paused_after ps event = ps

-- what another event gives before the table is settled: whom it cancelled go on before its own reply is sent (SMB-36)
abbrev pub cancelled_in : Sifted → Going
cancelled_in w = record { paused = w.paused; stack = w.woken; outs = w.outs }

abbrev pub after_hearing : List Paused → Sent → Gone
after_hearing ps done = (cancelled_in (sifted true ps done.0), done.1, done.2)

-- the frames that go on after an event was heard, or that it brings
abbrev pub begun_by : ℕ → Whole → Event → Bool → Gone
begun_by n s event true = (frame_in s.paused event, s.front, s.core)
begun_by n s event false = settled_in n s.exports (after_hearing (paused_after s.paused event) (heard n s event))

unfoldable pub frames_begun : ℕ → Whole → Event → Gone
frames_begun n s event = begun_by n s event (brings_frame s.connections event)

unfoldable pub heard_in : ℕ → Whole → Event → Gone
heard_in n s event = run n (s.exports, s.connections) (frames_begun n s event)

-- no frame waits, and the event brings none
abbrev pub is_plain : Whole → Event → Bool
is_plain s event = is_empty s.paused && not (brings_frame s.connections event)

abbrev pub all_sent : Whole → Sent → Gone
all_sent s done = (record { paused = s.paused; stack = []; outs = done.0 }, done.1, done.2)

-- what an event gives, once the table is settled, which it is after each (HOUSE-6), and all frames are at their ends
abbrev pub gone_by : ℕ → Whole → Event → Bool → Gone
gone_by n s event true = all_sent s (and_then (settled n s.exports) (heard n s event))
gone_by n s event false = heard_in n s event

unfoldable pub gone : ℕ → Whole → Event → Gone
gone n s event = gone_by n s event (is_plain s event)

-- ---- a step

-- A restart begins anew from the record with its epoch raised, which is stored first: if that store fails there is no such entry.
-- The clock goes on, and so do the places (HOUSE-2, HOUSE-10).
abbrev pub restarted : ℕ → Whole → Turn
restarted n s = record {
  next = record { exports = s.exports; place = s.place + 1; connections = []; paused = []; front = no_fronts; core = started (raised s.core.stable) s.core.clock (times_of s.exports) };
  made = min n 1;
  given = raised s.core.stable ∷ [];
  outs = [];
}

-- What an event does, of whose stores n succeed; it ends settled.
unfoldable pub step : ℕ → Whole → Event → Turn
step n s Restart = restarted n s
step n s event = turn_of s (connected s.connections s.place event) (gone n (as_found s) event)
