-- Words of the laws: what ends leave, and what a request comes to.
use Rattle.std.specs.Prelude.{◌≡◌, ◌↔◌, ℕ, ◌+◌, ◌==◌, nat_eq, nat_lt, Bool, true, false, not, List, Option, Some, None, is_some, Ok, if◌then◌else◌}
use Rattle.std.specs.List.{filter, list_any}
use Rattle.xl_base.specs.Lists.{IsIn}
use Rattle.xl_base.specs.declared.name.Owner.TheVariants as owners
use Rattle.xl_base.specs.declared.name.Party.{Party}
use Rattle.xl_matrix.specs.declared.claim.Claim.{Claim}
use Rattle.xl_matrix.specs.declared.claim.What.TheVariants.{Share}
use Rattle.xl_names.specs.declared.name.Name.{Name}
use Rattle.xl_smb.specs.Calls.{CallItem}
use Rattle.xl_smb.specs.Creates.{CreateCallItem}
use Rattle.xl_smb.specs.Heads.{command_of, head_of}
use Rattle.xl_smb.specs.Messages.{Call, message_at}
use Rattle.xl_smb.specs.declared.file.FileId.{FileId}
use Rattle.xl_smb.specs.declared.head.SmbHead.{SmbHead}
use Rattle.xl_smb_state.specs.State.{Lists, client_of, key_of, lease_of, open_of}
use Rattle.xl_smb_state.specs.declared.row.Lease.{Lease}
use Rattle.xl_smb_state.specs.declared.row.LeaseKey.{LeaseKey}
use Rattle.xl_smb_state.specs.declared.row.Open.{Open}
use Rattle.xl_smb_state.specs.declared.row.Place.{Place}
use Rattle.xl_table.specs.Leaving.{goes}
use Rattle.xl_table.specs.declared.leaver.Leaver.TheVariants as leavers
use Rattle.xl_wait.specs.declared.waiter.Rooms.{Rooms}
use Rattle.xl_wait.specs.declared.waiter.Waiter.{Waiter}
use Rattle.xl_core.specs.Causes.{IsClaimDue}
use Rattle.xl_core.specs.BreaksBegun.{others_of}
use Rattle.xl_core.specs.Decide.{way}
use Rattle.xl_core.specs.Askers.{party_in}
use Rattle.xl_core.specs.Settle.{waits_as}
use Rattle.xl_core.specs.State.{CoreState, drawn}
use Rattle.xl_core.specs.declared.ask.Answer.TheVariants as answers
use Rattle.xl_core.specs.declared.ask.Ask.{Ask}
use Rattle.xl_front_smb.specs.Checks.{id_of, session_named, tree_named, open_named}
use Rattle.xl_front_smb.specs.Files.{access_of, deny_of, key_asked, lease_key, is_key_elsewhere, open_ask, open_row, rooms_left, has_room_for_open, overwrites}
use Rattle.xl_front_smb.specs.FrontSmb.{head_heard}
use Rattle.xl_front_smb.specs.Plans.{Outcome, carried}
use Rattle.xl_front_smb.specs.Requests.{planned}
use Rattle.xl_front_smb.specs.Texts.{file_spelled}
use Rattle.xl_smb_locks.specs.Levels.{party_for, caching}
use Rattle.xl_smb_locks.specs.declared.levels.Caching.{Caching}
use Rattle.xl_smb_locks.specs.declared.status.SmbStatus.{SmbStatus}
use Rattle.xl_smb_locks.specs.declared.status.SmbStatus.TheVariants as status
use Rattle.xl_front_smb.specs.declared.told.Told.{Told}
use Rattle.xl_front_smb.specs.declared.told.Told.TheVariants.{Failed, Opened, Pending}

-- the rows that don't pass
abbrev pub rows_but : {X : Type 0} → (ℕ × X → Bool) → List (ℕ × X) → List (ℕ × X)
rows_but test rows = filter (λ e. not (test e)) rows

-- the claim is one of these opens', or of the party whose caches go with it
abbrev pub goes_among : List (ℕ × Option Party) → Claim → Bool
goes_among going c = list_any (λ e. goes (leavers.Open e.0 e.1) c) going

-- the waiter waits for one of these opens
abbrev pub waits_among : List (ℕ × Option Party) → Waiter → Bool
waits_among going w = list_any (λ e. waits_as e.0 w) going

-- of the claims just those stay that go with none of these opens, and of the waiters
pub record Without (going : List (ℕ × Option Party)) (old new : CoreState) : Type 0 where
  pub claims : (c : Claim) → IsIn c new.claims ↔ (IsIn c old.claims × (goes_among going c ≡ false))
  pub waiters : (w : Waiter) → IsIn w new.waiters ↔ (IsIn w old.waiters × (waits_among going w ≡ false))

-- of what is held only caches changed, whose breaks began; who waits is who waited, and the names are those that were kept
pub record OnlyBreaks (old new : CoreState) : Type 0 where
  pub claims : others_of new.claims ≡ others_of old.claims
  pub waiters : new.waiters ≡ old.waiters
  pub names : new.names ≡ old.names

-- the open is one of those of the lease that it asks for, which is on its file, if it asks for one
abbrev pub IsLeased : Lists → ℕ → Open → Type 0
IsLeased l number made = (key : LeaseKey) → key_of (Some made) ≡ Some key → (row : Lease) × (lease_of key l ≡ Some row) × (row.file ≡ made.file) × (list_any (nat_eq number) row.opens ≡ true)

-- ---- requests

-- what a request comes to
abbrev pub outcome_of : ℕ → CoreState → List (List ℕ) → ℕ → Lists → ℕ → SmbHead → CallItem → Outcome
outcome_of n s files others l conn h call = carried n s l (planned s files others l conn h call)

-- the message is a request of this header, alone in its frame, for this call
pub record IsRequest (bytes : List ℕ) (h : SmbHead) (call : CallItem) : Type 0 where
  pub heard : head_heard (head_of bytes) ≡ Some h
  pub alone : (h.next_command == 0) ≡ true
  pub numbered : nat_lt 18 h.command ≡ false
  pub served : is_some (command_of h.command) ≡ true
  pub read : message_at bytes ≡ Ok (Call h call)

-- it is this client's, under the session that it names
abbrev pub IsInSession : CoreState → Lists → ℕ → SmbHead → List ℕ → ℕ → Type 0
IsInSession s l conn h client session = (client_of conn l ≡ Some client) × (session_named s l conn h.session_id ≡ Some session)

-- and on the tree connect at this place
abbrev pub IsOnTree : CoreState → Lists → ℕ → SmbHead → List ℕ → ℕ → Place → Type 0
IsOnTree s l conn h client session place = IsInSession s l conn h client session × (tree_named l conn client h session ≡ Some place)

-- it acknowledges the break of this open under the connection, and no lease's
abbrev pub IsAckOf : CoreState → Lists → ℕ → SmbHead → List ℕ → FileId → ℕ → ℕ → ℕ → Open → Type 0
IsAckOf s l conn h client id level session number row = IsInSession s l conn h client session × (open_named s l conn id ≡ Some number) × (open_of number l ≡ Some row) × ((level == 0xFF) ≡ false)

-- why an acknowledgement is refused if no break runs: its level is above those to go down to, or there is nothing to
-- answer
abbrev pub rest_status : Bool → SmbStatus
rest_status above = if above then status.InvalidOplockProtocol else status.InvalidDeviceState

-- ---- why CREATE is answered so (MS-SMB2 3.3.5.9)

-- it fails so if this is the case, else what the rest says
abbrev pub FailsIf : Bool → SmbStatus → (Told → Type 0) → Told → Type 0
FailsIf true status due told = told ≡ Failed status
FailsIf false status due told = due told

-- it fails so if there is no such thing, else what the rest says
abbrev pub OnceFound : {X : Type 0} → SmbStatus → (X → Told → Type 0) → Option X → Told → Type 0
OnceFound status due None told = told ≡ Failed status
OnceFound status due (Some x) told = due x told

-- SHARING_VIOLATION if something held stands against the share for good, INSUFFICIENT_RESOURCES if it passes a limit
abbrev pub IsRefusalDue : ℕ → Rooms → CoreState → Ask → Claim → SmbStatus → Type 0
IsRefusalDue n left s a claim status.SharingViolation = (c : Claim) × IsClaimDue n left s a claim (answers.Conflict c)
IsRefusalDue n left s a claim status.InsufficientResources = (limit : ℕ) × IsClaimDue n left s a claim (answers.Full limit)
IsRefusalDue n left s a claim _ = ⊥

-- open under this id if the core is due to grant the share, which nothing held stands against, and with this said of
-- its cache; pending if the core is due to let it wait: while grace runs, or for the answers to the breaks of caches in its way
abbrev pub IsOpenDue : ℕ → Rooms → CoreState → Ask → Claim → ℕ → Caching → Told → Type 0
IsOpenDue n left s a claim id cache (Opened opened of) = (opened ≡ id) × (of ≡ cache) × IsClaimDue n left s a claim (answers.Granted claim)
IsOpenDue n left s a claim id cache (Pending number) = IsClaimDue n left s a claim (answers.Queued number)
IsOpenDue n left s a claim id cache (Failed refused) = IsRefusalDue n left s a claim refused
IsOpenDue n left s a claim id cache _ = ⊥

-- the share that the open of this number is for; its party is the lease that it is under, if it is under one
abbrev pub open_claim : List Name → ℕ → Open → CreateCallItem → Claim
open_claim names number row c = record {
  file = row.file;
  owner = owners.Open number;
  party = party_in (party_for number row) names;
  what = Share (access_of c.desired_access) (deny_of (access_of c.desired_access) c.share_access);
}

-- the open of the next number: by what is held once its breaks began; and it is given the cache that it has in
-- the state that is left
abbrev pub IsNextDue : ℕ → CoreState → CoreState → ℕ → Lists → ℕ → CreateCallItem → Open → Told → Type 0
IsNextDue n s t others l conn c row =
    let a = open_ask conn (s.counter + 1) row c in
    IsOpenDue n (rooms_left others l) (way (rooms_left others l) (drawn s) a).1 a (open_claim (drawn s).names (s.counter + 1) row c) (id_of s (s.counter + 1)) (caching t (s.counter + 1) row)

-- of the file that is found, which is only opened, under no lease whose key is in use on another file
abbrev pub IsFileDue : ℕ → CoreState → CoreState → ℕ → Lists → List ℕ → Place → CreateCallItem → ℕ → Told → Type 0
IsFileDue n s t others l client place c file =
    FailsIf (c.disposition == 2) status.ObjectNameCollision
    (FailsIf (is_key_elsewhere file (lease_key client (key_asked c)) l) status.InvalidParameter
    (FailsIf (not (has_room_for_open others l (s.counter + 1))) status.InsufficientResources
    (IsNextDue n s t others l place.connection c (open_row file client place c))))

-- by the disposition and the name
abbrev pub IsDispositionDue : ℕ → CoreState → CoreState → List (List ℕ) → ℕ → Lists → List ℕ → Place → CreateCallItem → Told → Type 0
IsDispositionDue n s t files others l client place c =
    FailsIf (nat_lt 5 c.disposition) status.InvalidParameter
    (FailsIf (overwrites c.disposition) status.NotSupported
    (OnceFound status.ObjectNameNotFound (IsFileDue n s t others l client place c) (file_spelled files c.name)))

-- of a client, in a session, on a tree connect of it, if this state is left
abbrev pub IsCreateDue : ℕ → CoreState → CoreState → List (List ℕ) → ℕ → Lists → ℕ → SmbHead → CreateCallItem → Told → Type 0
IsCreateDue n s t files others l conn h c =
    OnceFound status.InvalidParameter
    (λ client. OnceFound status.UserSessionDeleted
    (λ session. OnceFound status.NetworkNameDeleted (λ (place : Place). IsDispositionDue n s t files others l client place c) (tree_named l conn client h session)) (session_named s l conn h.session_id))
    (client_of conn l)
