-- What is sent for what the core tells of, and for the turns of those who wait.
use Rattle.std.specs.Prelude.{ℕ, zero, suc, ◌+◌, Bool, true, false, if◌then◌else◌, List, [], ◌∷◌, ◌++◌, map, Option, Some, None}
use Rattle.xl_base.specs.declared.event.Dest.{Dest}
use Rattle.xl_base.specs.declared.event.Dest.TheVariants.{Conn, Back}
use Rattle.xl_base.specs.declared.event.Kind.{Kind}
use Rattle.xl_base.specs.declared.event.Kind.TheVariants.{Rpc, Smb}
use Rattle.xl_base.specs.declared.event.Out.{Out}
use Rattle.xl_base.specs.declared.journal.Exports.{Exports}
use Rattle.xl_base.specs.declared.name.Protocol.{Protocol}
use Rattle.xl_base.specs.declared.name.Protocol.TheVariants as protocols
use Rattle.xl_frame.specs.Frames.{wrapped}
use Rattle.xl_core.specs.State.{CoreState}
use Rattle.xl_core.specs.Told.{told_to}
use Rattle.xl_core.specs.Settle.{turns_left, settle}
use Rattle.xl_core.specs.declared.ask.Answer.TheVariants.{Granted}
use Rattle.xl_core.specs.declared.ask.Effect.{Effect}
use Rattle.xl_core.specs.declared.ask.Effect.TheVariants.{Served}
use Rattle.xl_front_nlm.specs.Grants.{shown}
use Rattle.xl_front_nlm.specs.State.{FrontState}
use Rattle.xl_front_nfs.specs.Recalls.{recalls}
use Rattle.xl_front_nfs.specs.State.{FrontNfs, nfs_shown}
use Rattle.xl_front_smb.specs.FrontSmb.{smb_shown}
use Rattle.xl_front_smb.specs.State.{FrontSmb}
use Rattle.xl_house.specs.State.{rooms_of}
use Rattle.xl_house.specs.declared.layers.Fronts.{Fronts}

-- ---- outs

abbrev pub framed_to : Kind → Out → Dest → Out
framed_to kind o (Conn number) = record { dest = Conn number; to = o.to; bytes = wrapped kind o.bytes }
framed_to kind o (Back call) = o

-- an out in its frame, if it goes to a connection of this kind; a call has none
abbrev pub framed : Kind → Out → Out
framed kind o = framed_to kind o o.dest

-- replies in their frames
abbrev pub framed_by : Option Kind → List Out → List Out
framed_by None outs = outs
framed_by (Some kind) outs = map (framed kind) outs

-- ---- what is sent, and the fronts and the core afterwards

abbrev pub Sent : Type 0
Sent = List Out × Fronts × CoreState

-- these come first
abbrev pub behind : List Out → Sent → Sent
behind outs rest = (outs ++ rest.0, rest.1, rest.2)

-- these come last
abbrev pub before : Sent → List Out → Sent
before done outs = (done.0 ++ outs, done.1, done.2)

abbrev pub and_then : (Fronts → CoreState → Sent) → Sent → Sent
and_then rest done = behind done.0 (rest done.1 done.2)

-- NLM's front may send a grant by a call
abbrev pub nlm_sent : Fronts → List Out × FrontState × CoreState → Sent
nlm_sent f r = (map (framed Rpc) r.0, record f { nlm = r.1 }, r.2)

-- NFSv4's recalls a delegation by a call, and forgets a client that expired
abbrev pub nfs_sent : Fronts → CoreState → List Out → FrontNfs → Sent
nfs_sent f s calls nfs = (map (framed Rpc) calls, record f { nfs = nfs }, s)

-- SMB's sends a notice or a final reply
abbrev pub smb_sent : Fronts → CoreState → List Out × FrontSmb → Sent
smb_sent f s q = (map (framed Smb) q.0, record f { smb = q.1 }, s)

-- what the front of this protocol sends for an effect, in its frames, in the state that it left; the others hear nothing of it
abbrev pub shown_by : Exports → Fronts → CoreState → Effect → Protocol → Sent
shown_by exports f s effect protocols.Nlm = nlm_sent f (shown exports f.nlm s effect)
shown_by exports f s effect protocols.Nfs = nfs_sent f s (recalls f.nfs s effect) (nfs_shown f.nfs effect)
shown_by exports f s effect protocols.Smb = smb_sent f s (smb_shown f.smb s effect)

-- an effect goes to one front, that of the party that it names (HOUSE-13)
abbrev pub showing : Exports → Fronts → CoreState → Effect → Sent
showing exports f s effect = shown_by exports f s effect (told_to effect)

-- the effect tells of a grant, and how many of these do
abbrev pub is_grant : Effect → Bool
is_grant (Served party id (Granted claim)) = true
is_grant _ = false

abbrev pub grants : List Effect → ℕ
grants [] = 0
grants (effect ∷ effects) = if is_grant effect then grants effects + 1 else grants effects

-- what the fronts send for these effects, in order
abbrev pub all_shown : Exports → Fronts → CoreState → List Effect → Sent
all_shown exports f s [] = ([], f, s)
all_shown exports f s (effect ∷ effects) = and_then (λ g t. all_shown exports g t effects) (showing exports f s effect)

-- ---- turns

-- A turn that was taken: the fronts that it found, what the core told of it, and the core that it left.
pub record TurnTaken : Type 0 where
  pub front : Fronts
  pub told : List Effect
  pub left : CoreState

-- what telling of a turn sends, and the fronts and the core afterwards
abbrev pub turn_sent : Exports → TurnTaken → Sent
turn_sent exports t = all_shown exports t.front t.left t.told

-- a turn, and those behind it
abbrev pub turn_and_rest : Exports → (Fronts → CoreState → List TurnTaken) → Fronts → Option (List Effect × CoreState) → List TurnTaken
turn_and_rest exports rest f None = []
turn_and_rest exports rest f (Some turn) = record { front = f; told = turn.0; left = turn.1 } ∷ rest (all_shown exports f turn.1 turn.0).1 (all_shown exports f turn.1 turn.0).2

-- the turns that waiters have from here on, at most so many
abbrev pub taken : ℕ → ℕ → Exports → Fronts → CoreState → List TurnTaken
taken zero n exports f s = []
taken (suc fuel) n exports f s = turn_and_rest exports (taken fuel n exports) f (settle n (rooms_of f) s)

-- turns until no waiter has one; each takes a waiter out, or has breaks begin
unfoldable pub turns : ℕ → Exports → Fronts → CoreState → List TurnTaken
turns n exports f s = taken (turns_left s) n exports f s

-- what telling of these sends, and the fronts and the core afterwards: these, if there is no turn
abbrev pub turns_sent : Exports → Fronts → CoreState → List TurnTaken → Sent
turns_sent exports f s [] = ([], f, s)
turns_sent exports f s (t ∷ ts) = and_then (λ g u. turns_sent exports g u ts) (turn_sent exports t)

-- what is sent while the table is settled, and the fronts and the core afterwards
unfoldable pub settled : ℕ → Exports → Fronts → CoreState → Sent
settled n exports f s = turns_sent exports f s (turns n exports f s)
