-- Requests that wait: the final replies, which are asynchronous (MS-SMB2 3.3.4.2, 3.3.4.4).
use Rattle.std.specs.Prelude.{◌≡◌, ℕ, nat_eq, Bool, true, false, not, ◌&&◌, ◌==◌, nat_lt, if◌then◌else◌, List, [], ◌∷◌, ◌++◌, length, Option, Some, None, is_some}
use Rattle.std.specs.List.{list_any}
use Rattle.std.specs.Map.{remove_entry}
use Rattle.xl_base.specs.declared.event.Out.{Out}
use Rattle.xl_programs.specs.Sent.{sent_to}
use Rattle.xl_smb.specs.Heads.{number_of}
use Rattle.xl_smb.specs.Messages.{Reply, spelling}
use Rattle.xl_smb.specs.Places.{zeros}
use Rattle.xl_smb.specs.Replies.{ReplyItem, Create, Lock, Error}
use Rattle.xl_smb.specs.declared.command.Command.TheVariants as commands
use Rattle.xl_smb.specs.declared.head.Route.TheVariants.{Async}
use Rattle.xl_smb.specs.declared.head.SmbHead.{SmbHead}
use Rattle.xl_smb_state.specs.Links.{most_opens, has_place}
use Rattle.xl_smb_state.specs.State.{Lists, open_of, with_open, waiting_of, waiting_dropped}
use Rattle.xl_smb_state.specs.declared.row.Header.{Header}
use Rattle.xl_smb_state.specs.declared.row.Holder.{Holder}
use Rattle.xl_smb_state.specs.declared.row.Holder.TheVariants as holder
use Rattle.xl_smb_state.specs.declared.row.Open.{Open}
use Rattle.xl_smb_state.specs.declared.row.Request.{Request}
use Rattle.xl_smb_state.specs.declared.row.Request.TheVariants as request
use Rattle.xl_smb_state.specs.declared.row.Waiting.{Waiting}
use Rattle.xl_core.specs.State.{CoreState}
use Rattle.xl_core.specs.declared.ask.Answer.{Answer}
use Rattle.xl_core.specs.declared.ask.Effect.{Effect}
use Rattle.xl_core.specs.declared.ask.Effect.TheVariants as effects
use Rattle.xl_core.specs.Ids.{id_of}
use Rattle.xl_smb_locks.specs.Levels.{caching, contexts_told, opened, noticed}
use Rattle.xl_smb_locks.specs.Statuses.{comes_to, status_number, status_success}
use Rattle.xl_smb_locks.specs.declared.finals.FinalReply.{FinalReply}
use Rattle.xl_smb_locks.specs.declared.finals.FinalReply.TheVariants.{Failed, Locked, Opened}
use Rattle.xl_smb_locks.specs.declared.locking.Locking.{Locking}
use Rattle.xl_smb_locks.specs.declared.locking.Locking.TheVariants as locking
use Rattle.xl_smb_locks.specs.declared.status.SmbStatus.{SmbStatus}
use Rattle.xl_smb_locks.specs.declared.status.SmbStatus.TheVariants.{SharingViolation, LockNotGranted, InsufficientResources, Cancelled}

-- ---- final replies

-- the header repeats what is kept of the request, names the AsyncId, and grants no credits: those came with STATUS_PENDING
-- (SMB-25)
unfoldable pub final_head : ℕ → ℕ → Header → ℕ → SmbHead
final_head id command h status = record {
  credit_charge = h.credit_charge;
  status = status;
  command = command;
  credits = 0;
  flags = 3;
  next_command = 0;
  message_id = h.message_id;
  route = Async id;
  session_id = h.session_id;
  signature = zeros 16;
}

-- the number of the request's command
abbrev pub command_by : Request → ℕ
command_by (request.Create made) = number_of commands.Create
command_by request.Lock = number_of commands.Lock

-- a request for this can be answered so
abbrev pub FitsRequest : FinalReply → Request → Type 0
FitsRequest (Failed status) asked = Unit {0}
FitsRequest Locked request.Lock = Unit {0}
FitsRequest (Opened handle told) (request.Create made) = Unit {0}
FitsRequest said asked = ⊥

abbrev pub final_status : FinalReply → ℕ
final_status (Failed status) = status_number status
final_status said = status_success

-- the contexts: those of a file that is open
abbrev pub final_contexts : FinalReply → List ℕ
final_contexts (Opened handle told) = contexts_told told
final_contexts said = []

abbrev pub final_body : FinalReply → ReplyItem
final_body (Failed status) = Error
final_body Locked = Lock
final_body (Opened handle told) = Create (opened handle told)

abbrev pub final_reply : ℕ → Waiting → FinalReply → List ℕ
final_reply id row said = spelling (Reply (final_head id (command_by row.request) row.header (final_status said)) (final_body said))

-- it goes to the connection that the request came by
abbrev pub final_outs : ℕ → Waiting → FinalReply → List Out
final_outs id row said = sent_to row.place.connection (final_reply id row said)

-- ---- a request that failed

-- what is sent, and the lists without it
abbrev pub ended_with : ℕ → SmbStatus → Option Waiting → Lists → List Out × Lists
ended_with id status None l = ([], l)
ended_with id status (Some row) l = (final_outs id row (Failed status), waiting_dropped id l)

unfoldable pub request_ended : ℕ → SmbStatus → Lists → List Out × Lists
request_ended id status l = ended_with id status (waiting_of id l) l

-- ---- a request that was served

-- why it failed, if it did; what is served doesn't wait
abbrev pub refusal_in : Locking → Option SmbStatus
refusal_in locking.Done = None
refusal_in (locking.Failed status) = Some status
refusal_in (locking.Waits id) = Some InsufficientResources

-- what stands against it is answered so
abbrev pub denied_by : Request → SmbStatus
denied_by (request.Create made) = SharingViolation
denied_by request.Lock = LockNotGranted

abbrev pub refusal_of : Answer → Request → Option SmbStatus
refusal_of answer asked = refusal_in (comes_to (denied_by asked) answer)

-- who is to hold the open is there
abbrev pub holder_stands : Holder → List ℕ → Lists → Bool
holder_stands (holder.Tree place) client l = has_place place client l
holder_stands (holder.Nobody until) client l = false

-- the open may stand under its number: as its tree connect does until the request ends, and as the core grants it only
-- if there is room, it may (SMB-17)
abbrev pub may_stand : ℕ → Open → Lists → Bool
may_stand number made l = nat_lt (length l.opens) most_opens && (not (is_some (open_of number l)) && holder_stands made.holder made.client l)

-- what is said once the share of the open is granted, and the lists
abbrev pub stood : CoreState → Waiting → Open → Bool → Lists → FinalReply × Lists
stood s row made true l = (Opened (id_of s row.opened) (caching s row.opened made), with_open row.opened made l)
stood s row made false l = (Failed InsufficientResources, l)

-- by what it waited to do
abbrev pub succeeded : CoreState → Waiting → Request → Lists → FinalReply × Lists
succeeded s row (request.Create made) l = stood s row made (may_stand row.opened made l) l
succeeded s row request.Lock l = (Locked, l)

abbrev pub concluded : CoreState → Waiting → Option SmbStatus → Lists → FinalReply × Lists
concluded s row None l = succeeded s row row.request l
concluded s row (Some status) l = (Failed status, l)

abbrev pub replied : ℕ → Waiting → FinalReply × Lists → List Out × Lists
replied id row r = (final_outs id row r.0, r.1)

abbrev pub served_with : CoreState → ℕ → Answer → Option Waiting → Lists → List Out × Lists
served_with s id answer None l = ([], l)
served_with s id answer (Some row) l = replied id row (concluded s row (refusal_of answer row.request) (waiting_dropped id l))

unfoldable pub request_served : CoreState → ℕ → Answer → Lists → List Out × Lists
request_served s id answer l = served_with s id answer (waiting_of id l) l

-- ---- an effect

-- What is sent for an effect of the core, in the state that is left, and the lists then: the notice of a break to who holds the
-- open, or the lowest open of the lease, or the final reply to the request that was served (SMB-20, SMB-21). One that waits no
-- more was answered with the message that cancelled it.
unfoldable pub told_of : CoreState → Effect → Lists → List Out × Lists
told_of s (effects.Begun cache to call) l = (noticed s cache.party cache.what to l, l)
told_of s (effects.Served party id answer) l = request_served s id answer l
told_of s (effects.Cancelled party id) l = ([], l)
told_of s (effects.Expired client) l = ([], l)

-- ---- requests that a message cancelled

-- the core told that this one waits no more
abbrev pub cancels : ℕ → Effect → Bool
cancels id (effects.Cancelled party other) = other == id
cancels id effect = false

abbrev pub is_cancelled : ℕ → List Effect → Bool
is_cancelled id es = list_any (cancels id) es

abbrev pub and_sent : List Out × Lists → (Lists → List Out × Lists) → List Out × Lists
and_sent first rest = (first.0 ++ (rest first.1).0, (rest first.1).1)

-- What is sent to those of these requests of which the core told so, in their order, and the lists without them (SMB-27).
abbrev pub dismissed : List Effect → List ℕ → Lists → List Out × Lists
dismissed told [] l = ([], l)
dismissed told (id ∷ ids) l = if is_cancelled id told then and_sent (request_ended id Cancelled l) (dismissed told ids) else dismissed told ids l

-- ---- what the laws say of it

-- this one final reply is sent, to the connection that the request came by, and it waits no more
abbrev pub IsFinal : ℕ → Waiting → List ℕ → Lists → List Out × Lists → Type 0
IsFinal id row reply l r = (r.0 ≡ sent_to row.place.connection reply) × (r.1.waiting ≡ remove_entry (nat_eq id) l.waiting)
