-- Words of the laws of replies: what their headers repeat, and what they say (MS-SMB2 2.2.1, 3.3.4.1, 3.3.4.2).
use Rattle.std.specs.Prelude.{◌≡◌, ℕ, ◌==◌, ◌≤◌, true, false, not, if◌then◌else◌, List, [], ◌∷◌, ◌++◌, filter}
use Rattle.xl_base.specs.declared.event.Out.{Out}
use Rattle.xl_smb.specs.Calls.{CallItem, Create, Lock}
use Rattle.xl_smb.specs.Heads.{is_async, is_set}
use Rattle.xl_smb.specs.Messages.{Reply, spelling}
use Rattle.xl_smb.specs.Replies.{ReplyItem}
use Rattle.xl_smb.specs.declared.head.Route.TheVariants.{Async, Tree}
use Rattle.xl_smb.specs.declared.head.SmbHead.{SmbHead}
use Rattle.xl_smb_state.specs.declared.row.Request.{Request}
use Rattle.xl_smb_state.specs.declared.row.Request.TheVariants as request
use Rattle.xl_smb_state.specs.declared.row.Waiting.{Waiting}
use Rattle.xl_core.specs.declared.ask.Effect.{Effect}
use Rattle.xl_smb_locks.specs.Finals.{final_outs, is_cancelled}
use Rattle.xl_smb_locks.specs.declared.finals.FinalReply.TheVariants.{Failed}
use Rattle.xl_smb_locks.specs.Statuses.{status_number}
use Rattle.xl_smb_locks.specs.declared.status.SmbStatus.TheVariants.{Cancelled}
use Rattle.xl_front_smb.specs.Replies.{tree_id}
use Rattle.xl_front_smb.specs.declared.told.Told.{Told}
use Rattle.xl_front_smb.specs.declared.told.Told.TheVariants as told

-- The header repeats the MessageId, the command and the charge of the request's; it is a reply's, of the asynchronous form
-- exactly if it names an AsyncId, and alone in its frame; and it grants the credits that were asked for, at least 1 and at
-- most 512.
pub record RepeatsHead (h head : SmbHead) : Type 0 where
  pub message : head.message_id ≡ h.message_id
  pub command : head.command ≡ h.command
  pub charge : head.credit_charge ≡ h.credit_charge
  pub reply : is_set 1 head.flags ≡ true
  pub form : is_set 2 head.flags ≡ is_async head.route
  pub last : head.next_command ≡ 0
  pub least : 1 ≤ head.credits
  pub most : head.credits ≤ 512
  pub asked : 1 ≤ h.credits → h.credits ≤ 512 → head.credits ≡ h.credits

-- a status, in the request's session and on its tree connect
abbrev pub SaysHere : SmbHead → ℕ → SmbHead → Type 0
SaysHere h status head = (head.status ≡ status) × (head.session_id ≡ h.session_id) × (head.route ≡ Tree (tree_id h.route))

-- What the header says of what is answered: the status of a failure, STATUS_PENDING, 0x103, with the AsyncId under which the
-- request waits, or STATUS_SUCCESS; and the session and the tree connect are the request's, except those that begin.
abbrev pub Says : SmbHead → Told → SmbHead → Type 0
Says h (told.Failed status) head = SaysHere h (status_number status) head
Says h (told.Pending id) head = (head.status ≡ 0x103) × (head.session_id ≡ h.session_id) × (head.route ≡ Async id)
Says h (told.SetUp session) head = (head.status ≡ 0) × (head.session_id ≡ session) × (head.route ≡ Tree (tree_id h.route))
Says h (told.Connected tree) head = (head.status ≡ 0) × (head.session_id ≡ h.session_id) × (head.route ≡ Tree tree)
Says h other head = SaysHere h 0 head

-- the bytes are a reply to a request of this header that is answered so
pub record IsReplyOf (h : SmbHead) (answer : Told) (bytes : List ℕ) : Type 0 where
  pub head : SmbHead
  pub body : ReplyItem
  pub spelled : bytes ≡ spelling (Reply head body)
  pub repeats : RepeatsHead h head
  pub says : Says h answer head

-- the command of a request that waits: CREATE, 5, or LOCK, 10
abbrev pub command_of_request : Request → ℕ
command_of_request (request.Create made) = 5
command_of_request request.Lock = 10

-- The bytes are a final reply to a request that waits: with the MessageId, the session, the charge and the command of the
-- request, under the AsyncId that STATUS_PENDING named, in the asynchronous form; it grants no credits, as that did, and its
-- status isn't STATUS_PENDING again.
pub record IsFinalOf (id : ℕ) (row : Waiting) (bytes : List ℕ) : Type 0 where
  pub head : SmbHead
  pub body : ReplyItem
  pub spelled : bytes ≡ spelling (Reply head body)
  pub message : head.message_id ≡ row.header.message_id
  pub session : head.session_id ≡ row.header.session_id
  pub charge : head.credit_charge ≡ row.header.credit_charge
  pub command : head.command ≡ command_of_request row.request
  pub async : head.route ≡ Async id
  pub reply : is_set 1 head.flags ≡ true
  pub form : is_set 2 head.flags ≡ true
  pub last : head.next_command ≡ 0
  pub credits : head.credits ≡ 0
  pub ended : (head.status == 0x103) ≡ false

-- the command is that of the call, which is CREATE or LOCK
abbrev pub IsCommandOf : CallItem → ℕ → Type 0
IsCommandOf (Create c) number = number ≡ 5
IsCommandOf (Lock c) number = number ≡ 10
IsCommandOf call number = ⊥

-- what is kept of a request that waits is of the request of this header, for this call, that came by this connection
pub record KeepsHead (h : SmbHead) (conn : ℕ) (call : CallItem) (row : Waiting) : Type 0 where
  pub message : row.header.message_id ≡ h.message_id
  pub session : row.header.session_id ≡ h.session_id
  pub charge : row.header.credit_charge ≡ h.credit_charge
  pub command : IsCommandOf call (command_of_request row.request)
  pub connection : row.place.connection ≡ conn

-- ---- those of whom the core tells that they wait no more

-- the final replies, STATUS_CANCELLED, to those of these requests of whom these effects tell so, in order, each to the
-- connection that it came by
abbrev pub cancelled_outs : List Effect → List (ℕ × Waiting) → List Out
cancelled_outs told [] = []
cancelled_outs told (e ∷ es) = if is_cancelled e.0 told then final_outs e.0 e.1 (Failed Cancelled) ++ cancelled_outs told es else cancelled_outs told es

-- the others
abbrev pub not_cancelled : List Effect → List (ℕ × Waiting) → List (ℕ × Waiting)
not_cancelled told es = filter (λ e. not (is_cancelled e.0 told)) es
