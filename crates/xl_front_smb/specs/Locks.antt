-- LOCK and CANCEL (MS-SMB2 3.3.5.14, 3.3.5.16).
use Rattle.std.specs.Prelude.{ℕ, ◌^◌, ◌==◌, nat_lt, Bool, false, not, ◌&&◌, if◌then◌else◌, List, [], ◌∷◌, length, Option, Some, None}
use Rattle.xl_smb.specs.Locks.{LockItem, elements_of}
use Rattle.xl_smb.specs.declared.head.Route.{Route}
use Rattle.xl_smb.specs.declared.head.Route.TheVariants.{Tree, Async}
use Rattle.xl_smb.specs.declared.head.SmbHead.{SmbHead}
use Rattle.xl_smb.specs.declared.lock.LockElement.{LockElement}
use Rattle.xl_smb_state.specs.State.{Lists, open_of, waiting_of, waiting_by_message}
use Rattle.xl_smb_state.specs.declared.row.Header.{Header}
use Rattle.xl_smb_state.specs.declared.row.Holder.{Holder}
use Rattle.xl_smb_state.specs.declared.row.Holder.TheVariants as holder
use Rattle.xl_smb_state.specs.declared.row.Open.{Open}
use Rattle.xl_smb_state.specs.declared.row.Place.{Place}
use Rattle.xl_smb_state.specs.declared.row.Request.{Request}
use Rattle.xl_smb_state.specs.declared.row.Request.TheVariants as request
use Rattle.xl_smb_state.specs.declared.row.Waiting.{Waiting}
use Rattle.xl_wait.specs.Waiting.{is_waiting}
use Rattle.xl_core.specs.Deeds.{Deed, Cancels}
use Rattle.xl_core.specs.State.{CoreState}
use Rattle.xl_smb_locks.specs.Elements.{is_count, unlocks_first, lock_fault}
use Rattle.xl_smb_locks.specs.Locks.{lock_ask, unlocks}
use Rattle.xl_smb_locks.specs.declared.locking.Locking.{Locking}
use Rattle.xl_smb_locks.specs.declared.status.SmbStatus.{SmbStatus}
use Rattle.xl_smb_locks.specs.declared.status.SmbStatus.TheVariants.{InvalidParameter, FileClosed}
use Rattle.xl_front_smb.specs.Checks.{session_named, tree_named, open_named, refused, found, in_session, on_tree, on_open}
use Rattle.xl_front_smb.specs.Plans.{Plan, Fails, Does, Locks, told_as}
use Rattle.xl_front_smb.specs.Replies.{tree_id}
use Rattle.xl_front_smb.specs.declared.told.Told.TheVariants.{Nothing}

-- ---- a request that waits

-- what its final reply repeats
abbrev pub header_of : SmbHead → Header
header_of h = record { credit_charge = h.credit_charge; flags = h.flags; message_id = h.message_id; tree_id = tree_id h.route; session_id = h.session_id }

-- where the open is; one that nobody holds is not found on a connection
abbrev pub place_of : Holder → Place → Place
place_of (holder.Tree place) other = place
place_of (holder.Nobody until) other = other

-- what is kept of it, alone in its frame
abbrev pub waiting_row : SmbHead → Place → ℕ → Request → Waiting
waiting_row h place number asked = record { header = header_of h; place = place; opened = number; request = asked; behind = [] }

-- ---- LOCK

abbrev pub unlock_by : Lists → List Deed × Locking → Plan
unlock_by l r = Does r.0 l (told_as r.1)

abbrev pub lock_by : ℕ → Waiting → ℕ → Open → List LockElement → Option SmbStatus → Plan
lock_by conn kept number row es (Some status) = Fails status
lock_by conn kept number row es None = Locks (lock_ask conn number row es) kept

-- 1 to 64 ranges: all are unlocked, or all are locked (SMB-22)
abbrev pub lock_on : CoreState → Lists → ℕ → SmbHead → ℕ → Place → List LockElement → Open → Plan
lock_on s l conn h number place es row =
    refused ((not (is_count (length es)), InvalidParameter) ∷ [])
    (if unlocks_first es then unlock_by l (unlocks s number row es)
    else lock_by conn (waiting_row h (place_of row.holder place) number request.Lock) number row es (lock_fault es))

abbrev pub lock_found : CoreState → Lists → ℕ → SmbHead → ℕ → Place → List LockElement → Option Open → Plan
lock_found s l conn h number place es row = found row FileClosed (lock_on s l conn h number place es)

-- LOCK: in a session, on a tree connect of it, of an open under the connection
unfoldable pub lock : CoreState → Lists → ℕ → List ℕ → SmbHead → LockItem → Plan
lock s l conn client h c =
    in_session (λ session. on_tree (λ place. on_open (λ number. lock_found s l conn h number place (elements_of c.elements) (open_of number l)) (open_named s l conn c.file_id)) (tree_named l conn client h session)) (session_named s l conn h.session_id)

-- ---- CANCEL

-- the request came by this connection
abbrev pub came_by : ℕ → Option Waiting → Bool
came_by conn None = false
came_by conn (Some row) = row.place.connection == conn

-- the request that is named: by its AsyncId, which is a number, or as the first of this MessageId (SMB-26)
abbrev pub request_named : ℕ → Lists → ℕ → Route → Option ℕ
request_named conn l message (Async id) = if nat_lt id (2 ^ 32) && came_by conn (waiting_of id l) then Some id else None
request_named conn l message (Tree tree) = waiting_by_message conn message l

-- it waits no more, if it still does; nothing is sent except its final reply (SMB-26)
abbrev pub cancel_named : CoreState → Lists → Option ℕ → Plan
cancel_named s l None = Does [] l Nothing
cancel_named s l (Some id) = if is_waiting id s.waiters then Does (Cancels id ∷ []) l Nothing else Does [] l Nothing

unfoldable pub cancel : CoreState → Lists → ℕ → SmbHead → Plan
cancel s l conn h = cancel_named s l (request_named conn l h.message_id h.route)
