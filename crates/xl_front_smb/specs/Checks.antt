-- What a request names, and the checks before a command (MS-SMB2 3.3.5.2).
use Rattle.std.specs.Prelude.{ℕ, Bool, false, not, ◌==◌, if◌then◌else◌, List, [], ◌∷◌, Option, Some, None, Result, Ok, Err, is_some}
use Rattle.xl_smb.specs.declared.file.FileId.{FileId}
use Rattle.xl_smb.specs.declared.head.SmbHead.{SmbHead}
use Rattle.xl_smb_state.specs.Links.{has_place}
use Rattle.xl_smb_state.specs.State.{Lists, session_of, open_of, covers_holder}
use Rattle.xl_smb_state.specs.declared.row.Connection.{Connection}
use Rattle.xl_smb_state.specs.declared.row.Open.{Open}
use Rattle.xl_smb_state.specs.declared.row.Place.{Place}
use Rattle.xl_smb_state.specs.declared.row.Scope.TheVariants as scope
pub use Rattle.xl_core.specs.Ids.{id_of, number_in}
use Rattle.xl_core.specs.State.{CoreState}
use Rattle.xl_front_smb.specs.Owners.{is_session_on}
use Rattle.xl_front_smb.specs.Plans.{Plan, Fails}
use Rattle.xl_front_smb.specs.Replies.{tree_id}
use Rattle.xl_smb_locks.specs.declared.status.SmbStatus.{SmbStatus}
use Rattle.xl_smb_locks.specs.declared.status.SmbStatus.TheVariants.{InvalidParameter, NetworkNameDeleted, FileClosed, UserSessionDeleted}

-- the number, if it passes
abbrev pub kept_if : (ℕ → Bool) → Option ℕ → Option ℕ
kept_if test None = None
kept_if test (Some number) = if test number then Some number else None

-- ---- what a request names

-- the session, if it is on the connection that the request came by (SMB-11)
abbrev pub session_named : CoreState → Lists → ℕ → ℕ → Option ℕ
session_named s l conn id = kept_if (λ number. is_session_on conn (session_of number l)) (number_in s id)

-- the tree connect, if it is of that session, on that connection, of that client
abbrev pub place_named : Lists → List ℕ → Place → Option Place
place_named l client place = if has_place place client l then Some place else None

abbrev pub tree_named : Lists → ℕ → List ℕ → SmbHead → ℕ → Option Place
tree_named l conn client h session = place_named l client (record { connection = conn; session = session; tree = tree_id h.route })

-- an open, as it is found, is under the connection
abbrev pub is_open_on : ℕ → Option Open → Bool
is_open_on conn None = false
is_open_on conn (Some row) = covers_holder (scope.Connection conn) row.holder

-- the number in both halves of a FileId, if they are one (SMB-12)
abbrev pub file_number : CoreState → FileId → Option ℕ
file_number s id = if id.persistent == id.volatile then number_in s id.volatile else None

-- the open, if it is under the connection (SMB-11)
abbrev pub open_named : CoreState → Lists → ℕ → FileId → Option ℕ
open_named s l conn id = kept_if (λ number. is_open_on conn (open_of number l)) (file_number s id)

-- ---- the checks, from left to right, each before what goes on

-- the dialect is still to be agreed on
abbrev pub is_fresh : Option Connection → Bool
is_fresh None = false
is_fresh (Some row) = not (is_some row.client)

-- it fails with the status of the first of these that is the case
abbrev pub refused : List (Bool × SmbStatus) → Plan → Plan
refused [] rest = rest
refused (check ∷ checks) rest = if check.0 then Fails check.1 else refused checks rest

-- it fails so unless there is such a thing
abbrev pub found : {X : Type 0} → Option X → SmbStatus → (X → Plan) → Plan
found None status go = Fails status
found (Some x) status go = go x

-- it fails so, or goes on with what the checks gave
abbrev pub checked : {X : Type 0} → Result X SmbStatus → (X → Plan) → Plan
checked (Err status) go = Fails status
checked (Ok x) go = go x

-- the client has negotiated
abbrev pub negotiated_by : (List ℕ → Plan) → Option (List ℕ) → Plan
negotiated_by go client = found client InvalidParameter go

-- the session is there
abbrev pub in_session : (ℕ → Plan) → Option ℕ → Plan
in_session go session = found session UserSessionDeleted go

-- the tree connect is there
abbrev pub on_tree : (Place → Plan) → Option Place → Plan
on_tree go place = found place NetworkNameDeleted go

-- the open is there
abbrev pub on_open : (ℕ → Plan) → Option ℕ → Plan
on_open go number = found number FileClosed go
