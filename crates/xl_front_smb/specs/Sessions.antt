-- Connections, sessions and tree connects (MS-SMB2 3.3.5.4 to 3.3.5.8).
use Rattle.std.specs.Prelude.{ℕ, ◌+◌, Bool, not, ◌&&◌, ◌==◌, nat_lt, if◌then◌else◌, List, [], ◌∷◌, length, Some, is_some}
use Rattle.std.specs.List.{list_any}
use Rattle.xl_smb.specs.Sessions.{NegotiateCallItem, dialects_of}
use Rattle.xl_smb.specs.declared.head.SmbHead.{SmbHead}
use Rattle.xl_smb_state.specs.Links.{most_sessions, most_trees}
use Rattle.xl_smb_state.specs.State.{Lists, connection_of, connection_changed, session_of, session_added, sessions_on, tree_of, tree_added, tree_dropped, trees_on, opens_under}
use Rattle.xl_smb_state.specs.declared.row.Place.{Place}
use Rattle.xl_smb_state.specs.declared.row.Scope.TheVariants as scope
use Rattle.xl_core.specs.Deeds.{Draws}
use Rattle.xl_core.specs.State.{CoreState}
use Rattle.xl_front_smb.specs.Checks.{id_of, session_named, tree_named, is_fresh, refused, in_session, on_tree}
use Rattle.xl_front_smb.specs.Ending.{leavers_under, ends, all_closed, session_gone}
use Rattle.xl_front_smb.specs.Plans.{Plan, Fails, Does}
use Rattle.xl_front_smb.specs.Texts.{is_share}
use Rattle.xl_smb_locks.specs.declared.status.SmbStatus.TheVariants.{InvalidParameter, InsufficientResources, NotSupported, BadNetworkName}
use Rattle.xl_front_smb.specs.declared.told.Told.TheVariants.{Negotiated, SetUp, LoggedOff, Connected, Disconnected}

-- SMB 2.1 is offered
abbrev pub offers : List ℕ → Bool
offers dialects = list_any (λ dialect. dialect == 0x0210) (dialects_of dialects)

-- NEGOTIATE: the first time, with a dialect, of which one is SMB 2.1
unfoldable pub negotiate : Lists → ℕ → NegotiateCallItem → Plan
negotiate l conn c =
    refused (
    (not (is_fresh (connection_of conn l)), InvalidParameter)
    ∷ (length (dialects_of c.dialects) == 0, InvalidParameter)
    ∷ (not (offers c.dialects), NotSupported)
    ∷ [])
    (Does [] (connection_changed conn (record { client = Some c.client_guid }) l) Negotiated)

-- the session of this number, which is the next, begins
abbrev pub set_up_as : CoreState → Lists → ℕ → ℕ → Plan
set_up_as s l conn number = Does (Draws ∷ []) (session_added number (record { connection = conn }) l) (SetUp (id_of s number))

-- there is room for a session on the connection, and none has this number yet (SMB-14)
abbrev pub has_room_for_session : Lists → ℕ → ℕ → Bool
has_room_for_session l conn number = nat_lt (length (sessions_on conn l)) most_sessions && not (is_some (session_of number l))

abbrev pub set_up : CoreState → Lists → ℕ → Plan
set_up s l conn = if has_room_for_session l conn (s.counter + 1) then set_up_as s l conn (s.counter + 1) else Fails InsufficientResources

-- SESSION_SETUP: a new session, or one that is there already, whatever its buffer says (SMB-14)
unfoldable pub session_setup : CoreState → Lists → ℕ → SmbHead → Plan
session_setup s l conn h =
    if h.session_id == 0 then set_up s l conn
    else in_session (λ session. Does [] l (SetUp h.session_id)) (session_named s l conn h.session_id)

-- LOGOFF: the opens under the session end, with those that requests under it wait to make, and it goes with its tree connects
unfoldable pub logoff : CoreState → Lists → ℕ → SmbHead → Plan
logoff s l conn h =
    in_session (λ session. Does (ends (leavers_under s.names (scope.Session session) l)) (session_gone session (all_closed (opens_under (scope.Session session) l) l)) LoggedOff) (session_named s l conn h.session_id)

-- the tree connect of this number, which is the next, begins
abbrev pub connect_as : Lists → ℕ → ℕ → ℕ → Plan
connect_as l conn session number = Does (Draws ∷ []) (tree_added number (record { connection = conn; session = session }) l) (Connected number)

-- there is room for a tree connect on the connection, and none has this number yet (SMB-14)
abbrev pub has_room_for_tree : Lists → ℕ → ℕ → Bool
has_room_for_tree l conn number = nat_lt (length (trees_on conn l)) most_trees && not (is_some (tree_of number l))

abbrev pub connect : CoreState → Lists → ℕ → List ℕ → ℕ → Plan
connect s l conn path session =
    refused ((not (has_room_for_tree l conn (s.counter + 1)), InsufficientResources) ∷ (not (is_share path), BadNetworkName) ∷ [])
    (connect_as l conn session (s.counter + 1))

-- TREE_CONNECT: in a session, to the one share (SMB-14)
unfoldable pub tree_connect : CoreState → Lists → ℕ → SmbHead → List ℕ → Plan
tree_connect s l conn h path = in_session (connect s l conn path) (session_named s l conn h.session_id)

-- the opens under the tree connect end, with those that requests under it wait to make, and it goes
abbrev pub disconnect : CoreState → Lists → Place → Plan
disconnect s l place = Does (ends (leavers_under s.names (scope.Tree place.tree) l)) (tree_dropped place.tree (all_closed (opens_under (scope.Tree place.tree) l) l)) Disconnected

-- TREE_DISCONNECT: in a session, on a tree connect of it
unfoldable pub tree_disconnect : CoreState → Lists → ℕ → List ℕ → SmbHead → Plan
tree_disconnect s l conn client h = in_session (λ session. on_tree (disconnect s l) (tree_named l conn client h session)) (session_named s l conn h.session_id)
