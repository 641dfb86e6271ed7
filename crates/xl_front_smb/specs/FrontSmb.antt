-- What a message of an SMB connection does, and what it is answered (MS-SMB2 3.3.5).
use Rattle.std.specs.Prelude.{ℕ, if◌then◌else◌, List, [], ◌++◌, Option, Some, None, Result, Ok, Err}
use Rattle.xl_base.specs.declared.event.Out.{Out}
use Rattle.xl_base.specs.declared.journal.Exports.{Exports}
use Rattle.xl_programs.specs.Sent.{sent_to}
use Rattle.xl_smb.specs.Heads.{is_set, head_of}
use Rattle.xl_smb.specs.declared.fault.SmbBad.{SmbBad}
use Rattle.xl_smb.specs.declared.head.SmbHead.{SmbHead}
use Rattle.xl_smb_state.specs.State.{Lists}
use Rattle.xl_smb_locks.specs.Finals.{told_of}
use Rattle.xl_core.specs.Deeds.{Deed}
use Rattle.xl_core.specs.State.{CoreState}
use Rattle.xl_core.specs.declared.ask.Answer.{Answer}
use Rattle.xl_core.specs.declared.ask.Effect.{Effect}
use Rattle.xl_front_smb.specs.Ending.{all_dismissed}
use Rattle.xl_front_smb.specs.Plans.{Plan, deeds_of, answered_by, Outcome, carried}
use Rattle.xl_front_smb.specs.Replies.{reply_of}
use Rattle.xl_front_smb.specs.Requests.{requested}
use Rattle.xl_front_smb.specs.State.{FrontSmb}

-- what is sent to a connection, if it is answered
abbrev pub sent_by : ℕ → Option (List ℕ) → List Out
sent_by conn None = []
sent_by conn (Some bytes) = sent_to conn bytes

-- the header of a request; what has none, and what is a reply by flag 1, is no request, and meets with silence (SMB-9)
abbrev pub head_heard : Result SmbHead SmbBad → Option SmbHead
head_heard (Err fault) = None
head_heard (Ok h) = if is_set 1 h.flags then None else Some h

abbrev pub plan_for : Exports → ℕ → FrontSmb → CoreState → ℕ → List ℕ → SmbHead → Plan
plan_for exports others f s conn bytes h = requested s exports.files others f.state conn bytes h

-- ---- what it does

abbrev pub deeds_for : ℕ → Exports → ℕ → FrontSmb → CoreState → ℕ → List ℕ → Option SmbHead → List Deed
deeds_for n exports others f s conn bytes None = []
deeds_for n exports others f s conn bytes (Some h) = deeds_of n s f.state (plan_for exports others f s conn bytes h)

-- What a message does to the core, in a step of which n stores succeed, if the other fronts have so many opens.
unfoldable pub smb_deeds : ℕ → Exports → ℕ → FrontSmb → CoreState → ℕ → List ℕ → List Deed
smb_deeds n exports others f s conn bytes = deeds_for n exports others f s conn bytes (head_heard (head_of bytes))

-- ---- what it is answered

abbrev pub reply_for : Exports → ℕ → FrontSmb → CoreState → ℕ → List ℕ → List Answer → CoreState → Option SmbHead → Option (List ℕ)
reply_for exports others f s conn bytes answers t None = None
reply_for exports others f s conn bytes answers t (Some h) = reply_of h (answered_by t f.state (plan_for exports others f s conn bytes h) answers).0

-- What it is answered, without a frame, or none: a function of the message, of the state that it meets, of what its deeds are
-- answered, and of the state that they leave.
unfoldable pub smb_reply : Exports → ℕ → FrontSmb → CoreState → ℕ → List ℕ → List Answer → CoreState → Option (List ℕ)
smb_reply exports others f s conn bytes answers t = reply_for exports others f s conn bytes answers t (head_heard (head_of bytes))

-- ---- whom it cancels

abbrev pub finals_for : Exports → ℕ → FrontSmb → CoreState → ℕ → List ℕ → List Answer → List Effect → CoreState → Option SmbHead → List Out
finals_for exports others f s conn bytes answers told t None = []
finals_for exports others f s conn bytes answers told t (Some h) = (all_dismissed told (answered_by t f.state (plan_for exports others f s conn bytes h) answers).1).0

-- All that is sent for it: the final replies to those whom it cancels, and its own reply. A function of the message, of the
-- state that it meets, of what its deeds are answered and tell of, and of the state that they leave (HOUSE-1).
unfoldable pub smb_replies : Exports → ℕ → FrontSmb → CoreState → ℕ → List ℕ → List Answer → List Effect → CoreState → List Out
smb_replies exports others f s conn bytes answers told t = finals_for exports others f s conn bytes answers told t (head_heard (head_of bytes)) ++ sent_by conn (smb_reply exports others f s conn bytes answers t)

-- ---- a step: what is sent, the effects, and the front and the core afterwards

abbrev pub answered : ℕ → SmbHead → Outcome → List Out × List Effect × FrontSmb × CoreState
answered conn h r = ((all_dismissed r.1 r.2).0 ++ sent_by conn (reply_of h r.0), r.1, record { state = (all_dismissed r.1 r.2).1 }, r.3)

abbrev pub stepped : ℕ → Exports → ℕ → FrontSmb → CoreState → ℕ → List ℕ → Option SmbHead → List Out × List Effect × FrontSmb × CoreState
stepped n exports others f s conn bytes None = ([], [], f, s)
stepped n exports others f s conn bytes (Some h) = answered conn h (carried n s f.state (plan_for exports others f s conn bytes h))

-- What a message from a connection is answered, what the core told of besides, and the front and the core afterwards,
-- if n stores succeed in the step and the other fronts have so many opens.
unfoldable pub smb_step : ℕ → Exports → ℕ → FrontSmb → CoreState → ℕ → List ℕ → List Out × List Effect × FrontSmb × CoreState
smb_step n exports others f s conn bytes = stepped n exports others f s conn bytes (head_heard (head_of bytes))

-- ---- an effect

abbrev pub shown_with : List Out × Lists → List Out × FrontSmb
shown_with r = (r.0, record { state = r.1 })

-- What is sent for an effect of the core, in the state that it left, and the front then: who holds an open is sent the
-- break of its oplock, and a request that waited and was served, or waits no more, gets its final reply.
unfoldable pub smb_shown : FrontSmb → CoreState → Effect → List Out × FrontSmb
smb_shown f s effect = shown_with (told_of s effect f.state)
