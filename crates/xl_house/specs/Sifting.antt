-- Final replies that belong to frames of several messages, and the frames that go on with them.
use Rattle.std.specs.Prelude.{ℕ, ◌+◌, ◌*◌, Bool, true, false, not, ◌&&◌, ◌==◌, if◌then◌else◌, List, [], ◌∷◌, ◌++◌, drop, find, filter, Option, Some, None}
use Rattle.xl_base.specs.declared.event.Dest.{Dest}
use Rattle.xl_base.specs.declared.event.Dest.TheVariants.{Conn, Back}
use Rattle.xl_base.specs.declared.event.Event.{Event}
use Rattle.xl_base.specs.declared.event.Event.TheVariants.{Message}
use Rattle.xl_base.specs.declared.event.Kind.{Kind}
use Rattle.xl_base.specs.declared.event.Kind.TheVariants.{Rpc, Smb}
use Rattle.xl_base.specs.declared.event.Out.{Out}
use Rattle.xl_smb_frames.specs.Frames.{is_alone}
use Rattle.xl_smb_frames.specs.Waking.{async_id, woken}
use Rattle.xl_smb_frames.specs.declared.frame.Frame.{Frame}
use Rattle.xl_smb_frames.specs.declared.frame.Paused.{Paused}
use Rattle.xl_house.specs.State.{kind_of}
use Rattle.xl_house.specs.declared.connections.Connection.{Connection}
use Rattle.xl_house.specs.declared.frames.Sifted.{Sifted}

-- ---- which events bring frames

abbrev pub is_smb : Option Kind → Bool
is_smb (Some Smb) = true
is_smb (Some Rpc) = false
is_smb None = false

-- a frame of several messages, or one that is related, by a connection of SMB
abbrev pub brings_frame : List Connection → Event → Bool
brings_frame connections (Message number bytes) = is_smb (kind_of connections number) && not (is_alone bytes)
brings_frame connections event = false

-- ---- final replies

-- the message that an out carries in its frame
abbrev pub message_in : Out → List ℕ
message_in o = drop 4 o.bytes

abbrev pub goes_to : ℕ → Dest → Bool
goes_to conn (Conn number) = number == conn
goes_to conn (Back call) = false

abbrev pub is_id : ℕ → Option ℕ → Bool
is_id waiter None = false
is_id waiter (Some id) = id == waiter

-- the out is the final reply to the request of this
abbrev pub is_final : Out → Paused → Bool
is_final o p = goes_to p.conn o.dest && is_id p.waiter (async_id (message_in o))

-- all but the last, and that, if there are any
abbrev pub last_on : {X : Type 0} → X → List X × Option X → List X × Option X
last_on x (xs, None) = (xs, Some x)
last_on x (xs, Some last) = (x ∷ xs, Some last)

abbrev pub last_apart : {X : Type 0} → List X → List X × Option X
last_apart [] = ([], None)
last_apart (x ∷ xs) = last_on x (last_apart xs)

-- what is sent in a row with final replies comes right behind the last frame that goes on with one before it
abbrev pub behind_by : Sifted → Out → List Frame × Option Frame → Sifted
behind_by w o (others, None) = record w { outs = w.outs ++ o ∷ []; woken = others }
behind_by w o (others, Some f) = record w { woken = others ++ record f { after = f.after ++ o ∷ [] } ∷ [] }

abbrev pub behind_woken : Sifted → Out → Sifted
behind_woken w o = behind_by w o (last_apart w.woken)

abbrev pub sent_by : Bool → Sifted → Out → Sifted
sent_by true w o = behind_woken w o
sent_by false w o = record w { outs = w.outs ++ o ∷ [] }

abbrev pub sifted_by : Bool → Sifted → Out → Option Paused → Sifted
sifted_by row w o None = sent_by row w o
sifted_by row w o (Some p) = record w { woken = w.woken ++ woken p (message_in o) ∷ []; paused = filter (λ q. not (is_final o q)) w.paused }

-- the final reply of a frame isn't sent yet, and that frame goes on; all else is sent
unfoldable pub sift_one : Bool → Sifted → Out → Sifted
sift_one row w o = sifted_by row w o (find (is_final o) w.paused)

abbrev pub sift_all : Bool → Sifted → List Out → Sifted
sift_all row w [] = w
sift_all row w (o ∷ os) = sift_all row (sift_one row w o) os

-- What is sent aside from the final replies of frames, the frames that go on with these, in order, and what stands behind the
-- others that wait. The final replies to those whom an event cancels are a row, and its own reply is the last of it (SMB-36).
abbrev pub sifted : Bool → List Paused → List Out → Sifted
sifted row ps os = sift_all row (record { outs = []; woken = []; paused = ps }) os

-- ---- the frames that go on, the topmost first

-- the last of these on top
abbrev pub on_top : List Frame → List Frame → List Frame
on_top [] stack = stack
on_top (f ∷ fs) stack = on_top fs (f ∷ stack)

-- the topmost, and the others
abbrev pub popped : List Frame → Option Frame × List Frame
popped [] = (None, [])
popped (f ∷ fs) = (Some f, fs)

abbrev pub message_or_none : Option Out → List ℕ
message_or_none None = []
message_or_none (Some o) = message_in o

abbrev pub listed : Option Paused → List Paused
listed None = []
listed (Some p) = p ∷ []

-- ---- how many parts may be done yet

abbrev pub stack_left : List Frame → ℕ
stack_left [] = 0
stack_left (f ∷ fs) = (2 * f.left + 1) + stack_left fs

abbrev pub paused_left : List Paused → ℕ
paused_left [] = 0
paused_left (p ∷ ps) = (2 * p.left + 1) + paused_left ps
