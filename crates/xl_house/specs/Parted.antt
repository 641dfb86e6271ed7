-- A frame of several messages is its parts, each as a message alone (MS-SMB2 2.2.1, 3.3.5.2.7). What the machine does by steps of a
-- stack of frames is said here of the parts of a frame, in order, and of frames one after the other.
use Rattle.std.specs.Prelude.{◌≡◌, ◌⊎◌, ℕ, zero, suc, Bool, true, false, not, ◌&&◌, ◌||◌, ◌==◌, if◌then◌else◌, List, [], ◌∷◌, ◌++◌, map, Option, Some, None, is_some}
use Rattle.std.specs.List.{AllByRecursion}
use Rattle.xl_base.specs.Lists.{IsIn}
use Rattle.xl_base.specs.declared.event.Event.{Event}
use Rattle.xl_base.specs.declared.event.Event.TheVariants.{Message, Restart}
use Rattle.xl_base.specs.declared.event.Kind.TheVariants.{Smb}
use Rattle.xl_base.specs.declared.event.Out.{Out}
use Rattle.xl_core.specs.State.{CoreState, step_begun}
use Rattle.xl_smb.specs.Compounds.{Part, compound, next_at, part_at}
use Rattle.xl_smb.specs.Heads.{number_of}
use Rattle.xl_smb.specs.Related.{is_related, resolved, resolved_head, taken_over}
use Rattle.xl_smb.specs.declared.command.Command.TheVariants as command
use Rattle.xl_smb.specs.declared.related.Before.{Before}
use Rattle.xl_smb_state.specs.State.{is_empty}
use Rattle.xl_smb_frames.specs.Answers.{bytes_or_none, left_in, paused, rest_of, said, waits}
use Rattle.xl_smb_frames.specs.Frames.{invalid_parameter, leads_on, may_be_sent, opened, refusal, sent_if}
use Rattle.xl_smb_frames.specs.Steps.{error_by, failed_before, is_astray, is_unfit}
use Rattle.xl_smb_frames.specs.declared.frame.Frame.{Frame}
use Rattle.xl_smb_frames.specs.declared.frame.Paused.{Paused}
use Rattle.xl_house.specs.Done.{Round, round_of, rounds, rounds_for}
use Rattle.xl_house.specs.Lawful.{Law}
use Rattle.xl_house.specs.Machine.{Gone, Ground, found_in, heard, part_heard, paused_after, run, settled_in, steps_left}
use Rattle.xl_house.specs.Sifting.{brings_frame, is_smb, last_apart, listed, message_or_none, on_top, sifted}
use Rattle.xl_house.specs.State.{Whole, as_found, kind_of}
use Rattle.xl_house.specs.Telling.{framed, settled}
use Rattle.xl_house.specs.declared.connections.Connection.{Connection}
use Rattle.xl_house.specs.declared.layers.Fronts.{Fronts}

-- ---- an entry is its rounds

abbrev pub Left : Type 0
Left = Fronts × CoreState

-- what the event of a round leaves, as an event alone, once the table is settled
abbrev pub left_alone : ℕ → Round → Left
left_alone n r = let h = heard n r.found r.cause in let t = settled n r.found.exports h.1 h.2 in (t.1, t.2)

-- each round finds what the one before it left
abbrev pub AreInTurn : ℕ → Left → List Round → Type 0
AreInTurn n w [] = Unit {0}
AreInTurn n w (r ∷ rs) = (r.found.front ≡ w.0) × (r.found.core ≡ w.1) × AreInTurn n (left_alone n r) rs

-- and the last leaves this
abbrev pub left_after : ℕ → Left → List Round → Left
left_after n w [] = w
left_after n w (r ∷ rs) = left_after n (left_alone n r) rs

-- ---- the parts of a frame

-- What the parts of a frame leave: what stands behind requests, what was sent so far besides their replies, the fronts and the
-- core; their rounds, with those of frames that go on in between; and their replies.
pub record PartsDone : Type 0 where
  pub gone : Gone
  pub rounds : List Round
  pub replies : List (List ℕ)

-- none is left
abbrev pub none_done : Gone → PartsDone
none_done g = record { gone = g; rounds = []; replies = [] }

-- how those behind a part are done, by what it leaves to them, from the next header on
abbrev pub Others : Type 0
Others = Option Before → List ℕ → Gone → PartsDone

-- no part stands before it
abbrev pub is_first : Option Before → Bool
is_first before = not (is_some before)

-- a CANCEL alone in its frame, which gets no reply
abbrev pub is_silent : Option Before → Part → Bool
is_silent before p = is_first before && not (leads_on p) && (p.head.command == number_of command.Cancel)

-- its NextCommand is out of order, it is a NEGOTIATE or a CANCEL, or it is the first and related
abbrev pub is_refused : Option Before → Part → Bool
is_refused before p = is_astray p.behind || is_unfit p.head.command || (is_first before && is_related p.head)

-- why a part isn't done, if it isn't: it is refused, or it is related to one that failed, and fails so too, whatever the one before
-- was (SMB-34, SMB-37)
abbrev pub why_undone : Option Before → Part → Option ℕ
why_undone before p = if is_refused before p then Some invalid_parameter else error_by (failed_before (taken_over p.head before))

-- Behind a part that was answered so: those that follow, or, if it waits, none.
abbrev pub behind_part : Others → Option Before → Part → List ℕ → Gone → Option ℕ → PartsDone
behind_part others before p reply g None = others (left_in before p reply) (rest_of p) g
behind_part others before p reply g (Some id) = none_done g

-- and what stands with it under its AsyncId, if it waits
abbrev pub stands : (ℕ → Option Paused) → Option ℕ → Option Paused
stands by None = None
stands by (Some id) = by id

-- a part that isn't done is only answered
abbrev pub only_answered : Others → Option Before → Part → List ℕ → Gone → PartsDone
only_answered others before p refused g =
    let reply = said before p refused in
    let rest = behind_part others before p reply g (waits refused) in
    record rest { replies = reply ∷ rest.replies }

-- the rounds of frames that go on, to their ends
abbrev pub rounds_run : ℕ → Ground → Gone → List Round
rounds_run n at g = rounds_for (steps_left g.0) n at g

-- A part is done as the message alone that it is, filled in with what it takes over, and the table is settled after it: what that
-- sends before its last out is sent at once, and so is what settling sends; its last out is the reply. Final replies to requests
-- behind which other frames stand aren't sent: the frames of those that it cancels go on, and on top of them those of the ones
-- that are served, the last of them first. Frames that go on in between are done to their ends first.
abbrev pub as_message : Others → ℕ → ℕ → Ground → ℕ → Option Before → Part → List ℕ → Gone → PartsDone
as_message others left n at conn before p message g =
    let h = part_heard n at g.1 g.2 conn message in
    let own = message_or_none (last_apart h.0).1 in
    let reply = said before p own in
    let w = sifted true g.0.paused (last_apart h.0).0 in
    let behind = listed (stands (λ id. paused (record { conn = conn; before = before; left = left }) p id (rest_of p) (left_in before p reply)) (waits own)) in
    let between = settled_in n at.0 (record { paused = w.paused ++ behind; stack = w.woken; outs = g.0.outs ++ w.outs }, h.1, h.2) in
    let rest = behind_part others before p reply (run n at between) (waits own) in
    record rest { rounds = round_of n (found_in at g.1 g.2) (Message conn message) ∷ (rounds_run n at between ++ rest.rounds); replies = reply ∷ rest.replies }

abbrev pub part_by : Others → ℕ → ℕ → Ground → ℕ → Option Before → Part → Gone → Option ℕ → PartsDone
part_by others left n at conn before p g (Some status) = only_answered others before p (refusal (resolved_head (taken_over p.head before) p.head) status) g
part_by others left n at conn before p g None = as_message others left n at conn before p (resolved (taken_over p.head before) p.bytes) g

abbrev pub first_part : Others → ℕ → ℕ → Ground → ℕ → Option Before → Gone → Option Part → PartsDone
first_part others left n at conn before g None = none_done g
first_part others left n at conn before g (Some p) = if is_silent before p then none_done g else part_by others left n at conn before p g (why_undone before p)

-- The parts in these bytes, so many at most, one after the other: what stood before the first left this to it.
unfoldable pub parts_done : ℕ → ℕ → Ground → ℕ → Option Before → List ℕ → Gone → PartsDone
parts_done zero n at conn before bytes g = none_done g
parts_done (suc k) n at conn before bytes g = first_part (λ b rest h. parts_done k n at conn b rest h) (suc k) n at conn before g (part_at bytes)

-- ---- frames

-- replies in one frame
abbrev pub in_one_frame : ℕ → List (List ℕ) → List Out
in_one_frame conn replies = map (framed Smb) (sent_if (may_be_sent replies) conn (compound replies))

-- what they leave once their replies are sent, behind those that the frame has
abbrev pub replied : Frame → PartsDone → Gone
replied f d = (record d.gone.0 { outs = d.gone.0.outs ++ (in_one_frame f.conn (f.replies ++ d.replies) ++ f.after) }, d.gone.1, d.gone.2)

-- Frames are done one after the other, each by its parts, with their replies in one frame; and their rounds.
abbrev pub frames_done : ℕ → Ground → Gone → List Frame → Gone × List Round
frames_done n at g [] = (g, [])
frames_done n at g (f ∷ fs) =
    let d = parts_done f.left n at f.conn f.before f.rest g in
    let rest = frames_done n at (replied f d) fs in
    (rest.0, d.rounds ++ rest.1)

-- these frames came by connections of SMB
abbrev pub AreOfSmb : List Connection → List Frame → Type 0
AreOfSmb connections fs = AllByRecursion (λ f. is_smb (kind_of connections f.conn) ≡ true) fs

-- no frame goes on any more
abbrev pub ended : Gone → Gone
ended g = (record g.0 { stack = [] }, g.1, g.2)

-- ---- whose messages are done

-- bytes that came by this connection
abbrev pub Source : Type 0
Source = ℕ × List ℕ

abbrev pub brought_by : Event → List Source
brought_by (Message number bytes) = (number, bytes) ∷ []
brought_by event = []

-- what frames are taken from: the event's message, and what stands behind parts that wait
abbrev pub sources : Whole → Event → List Source
sources s event = brought_by event ++ map (λ p. (p.conn, p.rest)) s.paused

-- the bytes from the next header on, empty if there is none; and from the one so many on
abbrev pub next_or_none : List ℕ → List ℕ
next_or_none bytes = bytes_or_none (next_at bytes)

abbrev pub behind_at : ℕ → List ℕ → List ℕ
behind_at zero bytes = bytes
behind_at (suc k) bytes = next_or_none (behind_at k bytes)

-- the message of a part that stands there, filled in with what it takes over
abbrev pub IsPartOf : List Source → Event → Type 0
IsPartOf all cause =
    (conn : ℕ) × (bytes : List ℕ) × IsIn (conn, bytes) all × ((k : ℕ) × (p : Part) × (part_at (behind_at k bytes) ≡ Some p) × ((before : Option Before) × (cause ≡ Message conn (resolved before p.bytes))))

-- ---- an entry in which frames go on

-- What an entry does and sends behind these rounds is what these frames do and send, the topmost first.
pub record AreTheirParts (n : ℕ) (s : Whole) (event : Event) (first : List Round) (g : Gone) (fs : List Frame) (told : List Out) (t : Whole) : Type 0 where
  pub each : rounds n s event ≡ first ++ (frames_done n (s.exports, s.connections) g fs).1
  pub front : t.front ≡ (frames_done n (s.exports, s.connections) g fs).0.1
  pub core : t.core ≡ step_begun (frames_done n (s.exports, s.connections) g fs).0.2
  pub paused : t.paused ≡ (frames_done n (s.exports, s.connections) g fs).0.0.paused
  pub outs : told ≡ (frames_done n (s.exports, s.connections) g fs).0.0.outs

-- nothing is done or sent yet
abbrev pub as_it_comes : Whole → Gone
as_it_comes s = (record { paused = s.paused; stack = []; outs = [] }, s.front, step_begun s.core)

-- Each round is done in the state that the one before it left settled, and the last leaves the entry's; it is that of the event,
-- or of a part of a frame that it brings or of what stands behind one that waits. A frame that the event brings is its parts. So is
-- what stands behind a part that waited, behind the final reply of that: those that are served while the table is settled after
-- the event go on, the last of them first, and then those that the event cancels, the first of them first.
pub record IsPartedBy (n : ℕ) (s : Whole) (event : Event) (outs : List Out) (t : Whole) : Type 0 where
  pub turns : AreInTurn n (s.front, step_begun s.core) (rounds n s event)
  pub causes : AllByRecursion (λ r. (r.cause ≡ event) ⊎ IsPartOf (sources s event) r.cause) (rounds n s event)
  pub left : (let w = left_after n (s.front, step_begun s.core) (rounds n s event) in (t.front ≡ w.0) × (t.core ≡ step_begun w.1))
  pub brought : (conn : ℕ) (bytes : List ℕ) → event ≡ Message conn bytes → brings_frame s.connections event ≡ true → AreTheirParts n s event [] (as_it_comes s) (opened conn bytes ∷ []) outs t
  pub woken : brings_frame s.connections event ≡ false → is_empty s.paused ≡ false
      → (let h = heard n (as_found s) event in let cancelled = sifted true (paused_after s.paused event) h.0 in let r = settled n s.exports h.1 h.2 in let served = sifted false cancelled.paused r.0 in
      let g : Gone = (record { paused = served.paused; stack = []; outs = cancelled.outs ++ served.outs }, r.1, r.2) in
      AreTheirParts n s event (round_of n (as_found s) event ∷ []) g (on_top served.woken cancelled.woken) outs t)

-- a restart has no rounds
abbrev pub IsPartedOr : ℕ → Whole → Event → List Out → Whole → Type 0
IsPartedOr n s Restart outs t = Unit {0}
IsPartedOr n s event outs t = IsPartedBy n s event outs t

abbrev pub IsParted : Law
IsParted n s e t = IsPartedOr n s e.event e.outs t
