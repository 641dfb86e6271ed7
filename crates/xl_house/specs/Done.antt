-- What each event does to the core, in rounds: the deeds of its message or call, of the fronts' tables, or those of the clock, and
-- behind them the turns of those who wait, with what telling of them draws.
use Rattle.std.specs.Prelude.{ℕ, zero, suc, Bool, true, false, if◌then◌else◌, List, [], ◌∷◌, ◌++◌, map, Option, Some, None}
use Rattle.xl_base.specs.declared.event.Event.{Event}
use Rattle.xl_base.specs.declared.event.Event.TheVariants.{Message, Restart}
use Rattle.xl_base.specs.declared.event.Kind.TheVariants as kinds
use Rattle.xl_base.specs.declared.event.Out.{Out}
use Rattle.xl_base.specs.declared.journal.Exports.{Exports}
use Rattle.xl_base.specs.declared.name.Protocol.{Protocol}
use Rattle.xl_base.specs.declared.name.Protocol.TheVariants.{Nlm, Nfs, Smb}
use Rattle.xl_core.specs.State.{CoreState}
use Rattle.xl_core.specs.Deeds.{Deed, Serves}
use Rattle.xl_core.specs.Told.{told_to}
use Rattle.xl_core.specs.declared.ask.Effect.{Effect}
use Rattle.xl_front_nlm.specs.Grants.{shown_deeds}
use Rattle.xl_smb_frames.specs.Answers.{answered}
use Rattle.xl_smb_frames.specs.Frames.{frame_sent}
use Rattle.xl_smb_frames.specs.Steps.{next_step}
use Rattle.xl_smb_frames.specs.declared.frame.Frame.{Frame}
use Rattle.xl_smb_frames.specs.declared.frame.Paused.{Paused}
use Rattle.xl_smb_frames.specs.declared.steps.Step.{Step}
use Rattle.xl_smb_frames.specs.declared.steps.Step.TheVariants as step
use Rattle.xl_house.specs.Machine.{Gone, Ground, cancelled_in, found_in, frame_in, frames_begun, gone_further, heard, is_plain, part_in, paused_after, replied_by, sorted_in, steps_left, telling}
use Rattle.xl_house.specs.Own.{Given, Own, own_of}
use Rattle.xl_house.specs.Sifting.{brings_frame, is_smb, last_apart, popped, sifted}
use Rattle.xl_house.specs.State.{Whole, as_found, kind_of, rooms_of}
use Rattle.xl_house.specs.Telling.{Sent, TurnTaken, framed, framed_by, showing, turns, turns_sent}
use Rattle.xl_house.specs.declared.connections.Connection.{Connection}
use Rattle.xl_house.specs.declared.frames.Going.{Going}
use Rattle.xl_house.specs.declared.layers.Fronts.{Fronts}

-- ---- turns

-- what telling of an effect does: a number is given out if NLM's front sends a grant
abbrev pub deeds_by : Exports → CoreState → Effect → Protocol → List Deed
deeds_by exports s effect Nlm = shown_deeds exports s effect
deeds_by exports s effect Nfs = []
deeds_by exports s effect Smb = []

-- what telling of these effects does, in order
abbrev pub told_deeds : Exports → Fronts → CoreState → List Effect → List Deed
told_deeds exports f s [] = []
told_deeds exports f s (effect ∷ effects) = deeds_by exports s effect (told_to effect) ++ told_deeds exports (showing exports f s effect).1 (showing exports f s effect).2 effects

-- what telling of what an event gave of itself does
abbrev pub told_of : Exports → Given → List Deed
told_of exports g = told_deeds exports g.2 g.3 g.1

-- a turn, and what telling of it does
abbrev pub turn_deeds : Exports → TurnTaken → List Deed
turn_deeds exports t = Serves (rooms_of t.front) ∷ told_deeds exports t.front t.left t.told

abbrev pub turns_deeds : Exports → List TurnTaken → List Deed
turns_deeds exports [] = []
turns_deeds exports (t ∷ ts) = turn_deeds exports t ++ turns_deeds exports ts

-- ---- rounds

-- A round of an entry: the state that it finds, the event that it stands for (a message, an opening, the end of a
-- connection or of a call, a reading of the clock), what that does itself, and the turns behind it.
pub record Round : Type 0 where
  pub found : Whole
  pub cause : Event
  pub own : Own
  pub turns : List TurnTaken

-- what stands behind its own deeds: what telling of them does, and the turns
abbrev pub behind_own : Round → List Deed
behind_own r = told_of r.found.exports r.own.given ++ turns_deeds r.found.exports r.turns

abbrev pub round_deeds : Round → List Deed
round_deeds r = r.own.deeds ++ behind_own r

-- what telling of its own deeds sends, and the fronts and the core afterwards
abbrev pub round_told : Round → Sent
round_told r = telling r.found.exports r.own.given

-- and behind that its replies, and what telling of the turns sends
abbrev pub round_outs : Round → List Out
round_outs r = (round_told r).0 ++ (framed_by (replied_by r.found r.cause) r.own.replies ++ (turns_sent r.found.exports (round_told r).1 (round_told r).2 r.turns).0)

-- what these do, and what they send, in order
abbrev pub rounds_deeds : List Round → List Deed
rounds_deeds [] = []
rounds_deeds (r ∷ rs) = round_deeds r ++ rounds_deeds rs

abbrev pub rounds_outs : List Round → List Out
rounds_outs [] = []
rounds_outs (r ∷ rs) = round_outs r ++ rounds_outs rs

-- ---- an entry

-- the round of an event in this state, with all turns that waiters have then
abbrev pub round_of : ℕ → Whole → Event → Round
round_of n s event = record { found = s; cause = event; own = own_of n s event; turns = turns n s.exports (heard n s event).1 (heard n s event).2 }

-- The rounds of a frame's parts: each that is done is one, as a message alone.
abbrev pub done_round : ℕ → Ground → Gone → ℕ → List ℕ → Bool → List Round
done_round n at g conn message true = round_of n (found_in at g.1 g.2) (Message conn message) ∷ []
done_round n at g conn message false = []

abbrev pub step_round : ℕ → Ground → Gone → Frame → Step → List Round
step_round n at g f (step.Asked message) = done_round n at g f.conn message (is_smb (kind_of at.1 f.conn))
step_round n at g f next = []

abbrev pub top_round : ℕ → Ground → Gone → Option Frame → List Round
top_round n at g None = []
top_round n at g (Some f) = step_round n at g f (next_step f)

-- those of so many steps
abbrev pub rounds_for : ℕ → ℕ → Ground → Gone → List Round
rounds_for zero n at g = []
rounds_for (suc fuel) n at g = top_round n at g (popped g.0.stack).0 ++ rounds_for fuel n at (gone_further n at g)

-- that of the event, unless it brings a frame
abbrev pub first_by : ℕ → Whole → Event → Bool → List Round
first_by n s event true = []
first_by n s event false = round_of n s event ∷ []

abbrev pub first_round : ℕ → Whole → Event → List Round
first_round n s event = first_by n s event (brings_frame s.connections event)

abbrev pub rounds_in : ℕ → Whole → Event → List Round
rounds_in n s event = let g = frames_begun n s event in first_round n s event ++ rounds_for (steps_left g.0) n (s.exports, s.connections) g

abbrev pub rounds_by : ℕ → Whole → Event → Bool → List Round
rounds_by n s event true = round_of n s event ∷ []
rounds_by n s event false = rounds_in n s event

-- The rounds of an entry: its event is one, and each part of a frame that it brings, or that goes on by it. A restart has none, as
-- the core begins anew.
unfoldable pub rounds : ℕ → Whole → Event → List Round
rounds n s Restart = []
rounds n s event = rounds_by n (as_found s) event (is_plain s event)

-- all that it does
unfoldable pub deeds : ℕ → Whole → Event → List Deed
deeds n s event = rounds_deeds (rounds n s event)

-- ---- what an entry sends, by what its rounds send

-- what a round sends before the table is settled, and what it sends then
abbrev pub heard_outs : Round → List Out
heard_outs r = (round_told r).0 ++ framed_by (replied_by r.found r.cause) r.own.replies

abbrev pub turn_outs : Round → List Out
turn_outs r = (turns_sent r.found.exports (round_told r).1 (round_told r).2 r.turns).0

-- the replies of frames stand in their frames, and all else is sent at once (SMB-36)
abbrev pub settled_by : Round → Going → Going
settled_by r g = sorted_in g (sifted false g.paused (turn_outs r))

abbrev pub part_by : Going → Frame → Bool → List Round → Going × List Round
part_by g f false rs = (part_in g f ([], None), rs)
part_by g f true [] = (g, [])
part_by g f true (r ∷ rs) = (settled_by r (part_in g f (last_apart (heard_outs r))), rs)

abbrev pub step_by : List Connection → Going → Frame → Step → List Round → Going × List Round
step_by cs g f step.Ends rs = (record g { outs = g.outs ++ (map (framed kinds.Smb) (frame_sent f) ++ f.after) }, rs)
step_by cs g f (step.Replied reply) rs = (record g { stack = (answered f reply).0 ∷ g.stack }, rs)
step_by cs g f (step.Asked message) rs = part_by g f (is_smb (kind_of cs f.conn)) rs

abbrev pub top_by : List Connection → Going → Option Frame × List Frame → List Round → Going × List Round
top_by cs g (None, rest) rs = (g, rs)
top_by cs g (Some f, rest) rs = step_by cs (record g { stack = rest }) f (next_step f) rs

abbrev pub joined_for : ℕ → List Connection → Going × List Round → Going
joined_for zero cs j = j.0
joined_for (suc fuel) cs j = joined_for fuel cs (top_by cs j.0 (popped j.0.stack) j.1)

abbrev pub begun_with : List Paused → Event → Bool → List Round → Going × List Round
begun_with ps event true rs = (frame_in ps event, rs)
begun_with ps event false [] = (frame_in ps event, [])
begun_with ps event false (r ∷ rs) = (settled_by r (cancelled_in (sifted true (paused_after ps event) (heard_outs r))), rs)

abbrev pub joined_from : List Connection → Going × List Round → Going
joined_from cs j = joined_for (steps_left j.0) cs j

-- what is sent of what these rounds send, if no frame goes on or some do
abbrev pub joined_by : Whole → Event → List Round → Bool → List Out
joined_by s event rs true = rounds_outs rs
joined_by s event rs false = (joined_from s.connections (begun_with s.paused event (brings_frame s.connections event) rs)).outs

-- all that it sends: where frames go on their replies are sent together
unfoldable pub messages : ℕ → Whole → Event → List Out
messages n s event = joined_by s event (rounds n s event) (is_plain s event)
