-- All that is sent for a message: the final replies to those whom it cancels, and its own (MS-SMB2 3.3.4.1, 3.3.4.2, 3.3.5.16).
use Rattle.std.specs.Prelude.{◌≡◌, ◌⊎◌, ◌==◌, ℕ, Bool, true, false, List, [], ◌∷◌, ◌++◌, Option, Some, None}
use Rattle.std.specs.Map.{keys_of}
use Rattle.xl_base.specs.Lists.{IsIn}
use Rattle.xl_base.specs.declared.event.Out.{Out}
use Rattle.xl_base.specs.declared.journal.Exports.{Exports}
use Rattle.xl_programs.specs.Sent.{sent_to}
use Rattle.xl_smb.specs.Heads.{head_of, number_of}
use Rattle.xl_smb.specs.declared.command.Command.TheVariants as command
use Rattle.xl_smb.specs.declared.head.SmbHead.{SmbHead}
use Rattle.xl_smb_state.specs.State.{Lists, waiting_dropped, waiting_of}
use Rattle.xl_smb_state.specs.declared.row.Waiting.{Waiting}
use Rattle.xl_core.specs.State.{CoreState}
use Rattle.xl_core.specs.declared.ask.Answer.{Answer}
use Rattle.xl_core.specs.declared.ask.Effect.{Effect}
use Rattle.xl_smb_locks.specs.Finals.{is_cancelled}
use Rattle.xl_front_smb.specs.FrontSmb.{head_heard, plan_for}
use Rattle.xl_front_smb.specs.Plans.{answered_by}
use Rattle.xl_front_smb.specs.State.{FrontSmb}
use Rattle.xl_front_smb.specs.declared.told.Told.{Told}
use Rattle.xl_front_smb.specs.declared.told.Told.TheVariants as said
use Rattle.xl_smb_laws.specs.ReplyHeads.{IsFinalOf, IsReplyOf}

-- the first of two facts, if so, and else the second
abbrev pub IfSo : Bool → Type 0 → Type 0 → Type 0
IfSo true First Second = First
IfSo false First Second = Second

-- one message goes to this connection, and its bytes are such
abbrev pub IsOneTo : ℕ → (List ℕ → Type 0) → List Out → Type 0
IsOneTo conn Says outs = (bytes : List ℕ) × Says bytes × (outs ≡ sent_to conn bytes)

-- one final reply to the request that waits, which is then forgotten
abbrev pub IsFinalThen : (Lists → List Out → Type 0) → ℕ → Option Waiting → Lists → List Out → Type 0
IsFinalThen Rest id None l outs = Rest l outs
IsFinalThen Rest id (Some row) l outs = (first : List Out) × (later : List Out) × (outs ≡ first ++ later) × IsOneTo row.place.connection (IsFinalOf id row) first × Rest (waiting_dropped id l) later

-- the final replies to those of these requests of whom the core told that they wait no more, in order, and no other
abbrev pub AreFinals : List Effect → List ℕ → Lists → List Out → Type 0
AreFinals told [] l outs = outs ≡ []
AreFinals told (id ∷ ids) l outs = IfSo (is_cancelled id told) (IsFinalThen (AreFinals told ids) id (waiting_of id l) l outs) (AreFinals told ids l outs)

-- A request of this header, which is answered so, has one reply, to its connection; a CANCEL has none (MS-SMB2 3.3.5.16).
abbrev pub IsOwnReply : ℕ → SmbHead → Told → List Out → Type 0
IsOwnReply conn h answer outs = IfSo (h.command == number_of command.Cancel) (outs ≡ []) (((answer ≡ said.Nothing) × (outs ≡ [])) ⊎ IsOneTo conn (IsReplyOf h answer) outs)

-- For a message of this header the final replies are sent to those whom it cancels, who waited when it came or came to wait by it, and
-- its own reply. What has no header of a request meets with silence.
abbrev pub IsHeardBy : Exports → ℕ → FrontSmb → CoreState → ℕ → List ℕ → List Answer → List Effect → CoreState → Option SmbHead → List Out → Type 0
IsHeardBy exports others f s conn bytes answers effects t None outs = outs ≡ []
IsHeardBy exports others f s conn bytes answers effects t (Some h) outs =
    (answer : Told) × (l : Lists) × (finals : List Out) × (own : List Out)
    × (answered_by t f.state (plan_for exports others f s conn bytes h) answers ≡ (answer, l))
    × ((e : ℕ × Waiting) → IsIn e f.state.waiting → IsIn e l.waiting)
    × (outs ≡ finals ++ own) × AreFinals effects (keys_of l.waiting) l finals × IsOwnReply conn h answer own

-- These are all that is sent for the message, if its deeds are answered and tell so, and leave the core t.
abbrev pub IsHeard : Exports → ℕ → FrontSmb → CoreState → ℕ → List ℕ → List Answer → List Effect → CoreState → List Out → Type 0
IsHeard exports others f s conn bytes answers effects t outs = IsHeardBy exports others f s conn bytes answers effects t (head_heard (head_of bytes)) outs
