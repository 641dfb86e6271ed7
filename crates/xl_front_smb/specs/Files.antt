-- Opens: CREATE, CLOSE, and acknowledgements of breaks (MS-SMB2 3.3.5.9, 3.3.5.10, 3.3.5.22).
use Rattle.std.specs.Prelude.{ℕ, ◌+◌, ◌-◌, Bool, true, false, not, ◌&&◌, ◌||◌, ◌==◌, nat_lt, bit_and, if◌then◌else◌, List, [], ◌∷◌, length, Option, Some, None, is_some, option_map}
use Rattle.xl_cache.specs.Levels.{kind_of_state, level_of, lease_choices, oplock_choices}
use Rattle.xl_cache.specs.Targets.{rest_lies_within}
use Rattle.xl_matrix.specs.declared.claim.Break.{Break}
use Rattle.xl_matrix.specs.declared.claim.CacheKind.{CacheKind}
use Rattle.xl_matrix.specs.declared.claim.CacheKind.TheVariants.{R}
use Rattle.xl_matrix.specs.declared.claim.Claim.{Claim}
use Rattle.xl_matrix.specs.declared.claim.Rwd.{Rwd}
use Rattle.xl_matrix.specs.declared.claim.What.{What}
use Rattle.xl_matrix.specs.declared.claim.What.TheVariants as whats
use Rattle.xl_smb.specs.Creates.{CreateCallItem}
use Rattle.xl_smb.specs.Heads.{is_set}
use Rattle.xl_smb.specs.Leases.{lease_of}
use Rattle.xl_smb.specs.declared.breaks.Break.{Break as Acknowledgement}
use Rattle.xl_smb.specs.declared.breaks.Break.TheVariants as held
use Rattle.xl_smb.specs.declared.file.FileId.{FileId}
use Rattle.xl_smb.specs.declared.head.SmbHead.{SmbHead}
use Rattle.xl_smb.specs.declared.lease.Lease.{Lease}
use Rattle.xl_smb_state.specs.State.{Lists, open_of, lease_of as lease_row, key_file, closed}
use Rattle.xl_smb_state.specs.declared.row.Holder.TheVariants as holder
use Rattle.xl_smb_state.specs.declared.row.LeaseKey.{LeaseKey}
use Rattle.xl_smb_state.specs.declared.row.Open.{Open}
use Rattle.xl_smb_state.specs.declared.row.Place.{Place}
use Rattle.xl_smb_state.specs.declared.row.Request.TheVariants as request
use Rattle.xl_smb_state.specs.declared.row.Waiting.{Waiting}
use Rattle.xl_wait.specs.declared.waiter.Rooms.{Rooms}
use Rattle.xl_core.specs.Deeds.{Closes, Acks}
use Rattle.xl_core.specs.Limits.{most_opens}
use Rattle.xl_core.specs.State.{CoreState}
use Rattle.xl_core.specs.declared.ask.Act.TheVariants.{Share}
use Rattle.xl_core.specs.declared.ask.Ask.{Ask}
use Rattle.xl_core.specs.declared.ask.Who.TheVariants as who
use Rattle.xl_front_smb.specs.Checks.{id_of, session_named, tree_named, open_named, refused, found, in_session, on_tree, on_open}
use Rattle.xl_front_smb.specs.Ending.{party_going}
use Rattle.xl_front_smb.specs.Locks.{waiting_row}
use Rattle.xl_front_smb.specs.Plans.{Plan, Fails, Does, Opens}
use Rattle.xl_front_smb.specs.Texts.{file_spelled}
use Rattle.xl_smb_locks.specs.Levels.{party_for, lease_party, cache_of, oplock_of}
use Rattle.xl_smb_locks.specs.declared.status.SmbStatus.TheVariants.{InvalidParameter, ObjectNameNotFound, ObjectNameCollision, InsufficientResources, NotSupported, InvalidOplockProtocol, FileClosed, InvalidDeviceState, Unsuccessful, RequestNotAccepted}
use Rattle.xl_front_smb.specs.declared.told.Told.TheVariants.{Failed, Acknowledged, Answered, Closed}

-- ---- access and sharing (2.2.13, 2.2.13.1.1)

-- one of these bits is among those asked for
abbrev pub asks_any : ℕ → ℕ → Bool
asks_any bits desired = not (bit_and desired bits == 0)

-- GENERIC_ALL and MAXIMUM_ALLOWED (SMB-16)
abbrev pub all_bits : ℕ
all_bits = 0x10000000 + 0x02000000

-- FILE_READ_DATA, FILE_EXECUTE, GENERIC_READ and GENERIC_EXECUTE are for reading (SMB-16)
abbrev pub read_bits : ℕ
read_bits = 0x1 + 0x20 + 0x80000000 + 0x20000000 + all_bits

-- FILE_WRITE_DATA, FILE_APPEND_DATA and GENERIC_WRITE are for writing
abbrev pub write_bits : ℕ
write_bits = 0x2 + 0x4 + 0x40000000 + all_bits

-- DELETE is for deletion
abbrev pub delete_bits : ℕ
delete_bits = 0x10000 + all_bits

abbrev pub access_of : ℕ → Rwd
access_of desired = record { r = asks_any read_bits desired; w = asks_any write_bits desired; d = asks_any delete_bits desired }

-- neither reading, writing nor deletion
abbrev pub is_none : Rwd → Bool
is_none a = not (a.r || (a.w || a.d))

-- what isn't shared is denied; an open for none of the three denies nothing (SMB-16)
unfoldable pub deny_of : Rwd → ℕ → Rwd
deny_of access share =
    if is_none access then record { r = false; w = false; d = false }
    else record { r = not (is_set 1 share); w = not (is_set 2 share); d = not (is_set 4 share) }

-- ---- CREATE

-- SMB2_OPLOCK_LEVEL_LEASE (2.2.13)
abbrev pub lease_level : ℕ
lease_level = 0xFF

-- the lease that is asked for, by this level and a context that carries it (3.3.5.9.8) (SMB-19)
abbrev pub lease_asked : CreateCallItem → Option Lease
lease_asked c = if c.oplock_level == lease_level then lease_of c.contexts else None

abbrev pub key_asked : CreateCallItem → Option (List ℕ)
key_asked c = option_map (λ lease. lease.key) (lease_asked c)

-- the caches wished for: a lease's by its state, or an oplock's by its level (SMB-18, SMB-19)
abbrev pub choices_by : ℕ → Option Lease → List CacheKind
choices_by level None = oplock_choices level
choices_by level (Some lease) = lease_choices lease.state

-- the open of this row, which asks for its share of the file, waits for the end of grace and for the answers to breaks, and wishes
-- for an oplock, or for the lease that it is to be under
unfoldable pub open_ask : ℕ → ℕ → Open → CreateCallItem → Ask
open_ask conn number row c = record {
  file = row.file;
  owner = who.Open number;
  party = party_for number row;
  act = Share (access_of c.desired_access) (deny_of (access_of c.desired_access) c.share_access);
  wish = choices_by c.oplock_level (lease_asked c);
  conn = Some conn;
  blocking = false;
  awaits = true;
  reclaim = false;
  monitored = false;
  mark = None;
  rows = record { hosts = 0; owners = 0; opens = 1 };
}

-- the open of this file, held by the tree connect at this place, and under the lease that is asked for
abbrev pub open_row : ℕ → List ℕ → Place → CreateCallItem → Open
open_row file client place c = record { file = file; client = client; lease = key_asked c; durable = false; holder = holder.Tree place }

-- how many opens there are, with those of the other fronts
abbrev pub all_opens : ℕ → Lists → ℕ
all_opens others l = others + length l.opens

-- the room for opens that is left; an open adds no other row
abbrev pub rooms_left : ℕ → Lists → Rooms
rooms_left others l = record { hosts = 0; owners = 0; opens = most_opens - all_opens others l }

-- what is kept of a CREATE that waits
abbrev pub create_row : SmbHead → Place → ℕ → Open → Waiting
create_row h place number row = waiting_row h place number (request.Create row)

-- the open of this number, which is the next, is asked for
abbrev pub open_as : CoreState → ℕ → Lists → SmbHead → List ℕ → Place → CreateCallItem → ℕ → ℕ → Plan
open_as s others l h client place c file number =
    Opens (rooms_left others l) (open_ask place.connection number (open_row file client place c) c) number (open_row file client place c) (id_of s number) (create_row h place number (open_row file client place c))

-- there is room for an open, and none has this number yet (SMB-14)
abbrev pub has_room_for_open : ℕ → Lists → ℕ → Bool
has_room_for_open others l number = nat_lt (all_opens others l) most_opens && not (is_some (open_of number l))

-- the lease's key is in use on another file, also if only a CREATE that waits has it (SMB-19)
abbrev pub is_other : ℕ → Option ℕ → Bool
is_other file None = false
is_other file (Some used) = not (used == file)

abbrev pub is_key_elsewhere : ℕ → Option LeaseKey → Lists → Bool
is_key_elsewhere file None l = false
is_key_elsewhere file (Some key) l = is_other file (key_file key l)

abbrev pub lease_key : List ℕ → Option (List ℕ) → Option LeaseKey
lease_key client asked = option_map (λ key. record { client = client; key = key }) asked

-- CreateDisposition (2.2.13)
abbrev pub file_supersede : ℕ
file_supersede = 0

abbrev pub file_create : ℕ
file_create = 2

abbrev pub file_overwrite : ℕ
file_overwrite = 4

abbrev pub file_overwrite_if : ℕ
file_overwrite_if = 5

-- it would change what the file holds (SMB-16)
abbrev pub overwrites : ℕ → Bool
overwrites disposition = disposition == file_supersede || (disposition == file_overwrite || disposition == file_overwrite_if)

-- files are only opened: FILE_CREATE meets the one that is there (SMB-16)
abbrev pub create_on : CoreState → List (List ℕ) → ℕ → Lists → SmbHead → List ℕ → CreateCallItem → Place → Plan
create_on s files others l h client c place =
    refused ((nat_lt file_overwrite_if c.disposition, InvalidParameter) ∷ (overwrites c.disposition, NotSupported) ∷ [])
    (found (file_spelled files c.name) ObjectNameNotFound (λ file.
    refused (
    (c.disposition == file_create, ObjectNameCollision)
    ∷ (is_key_elsewhere file (lease_key client (key_asked c)) l, InvalidParameter)
    ∷ (not (has_room_for_open others l (s.counter + 1)), InsufficientResources)
    ∷ [])
    (open_as s others l h client place c file (s.counter + 1))))

-- CREATE: in a session, on a tree connect of it
unfoldable pub create : CoreState → List (List ℕ) → ℕ → Lists → ℕ → List ℕ → SmbHead → CreateCallItem → Plan
create s files others l conn client h c = in_session (λ session. on_tree (create_on s files others l h client c) (tree_named l conn client h session)) (session_named s l conn h.session_id)

-- ---- CLOSE

-- the open ends with all that it holds
abbrev pub close_open : CoreState → Lists → ℕ → Plan
close_open s l number = Does (Closes number (party_going s.names l number) ∷ []) (closed number l) Closed

-- CLOSE: in a session, on a tree connect of it, of an open under the connection
unfoldable pub close : CoreState → Lists → ℕ → List ℕ → SmbHead → FileId → Plan
close s l conn client h id =
    in_session (λ session. on_tree (λ place. on_open (close_open s l) (open_named s l conn id)) (tree_named l conn client h session)) (session_named s l conn h.session_id)

-- ---- acknowledgements of breaks

abbrev pub is_read : CacheKind → Bool
is_read R = true
is_read kind = false

-- a break leaves less than level II
abbrev pub leaves_less : Option Break → Bool
leaves_less None = false
leaves_less (Some running) = not (rest_lies_within (Some R) running.target)

-- the level isn't one to go down to: it is above II, or it is II if the oplock is no more than that already, or if its
-- break leaves less (SMB-20)
abbrev pub is_refused : ℕ → CacheKind → Option Break → Bool
is_refused level kind running = nat_lt 1 level || ((level == 1) && (is_read kind || leaves_less running))

-- none, 0, or level II, 1
abbrev pub left_at : ℕ → Option CacheKind
left_at level = if level == 0 then None else Some R

-- by the oplock that the open has: if its break runs that is answered, so that nothing is left of it if the level is refused,
-- and else this level (SMB-20)
abbrev pub ack_by : Lists → ℕ → ℕ → Claim → What → Plan
ack_by l id level cache (whats.Cache kind None) = refused ((is_refused level kind None, InvalidOplockProtocol) ∷ []) (Fails InvalidDeviceState)
ack_by l id level cache (whats.Cache kind (Some running)) =
    if is_refused level kind (Some running) then Does (Acks cache None ∷ []) l (Failed InvalidOplockProtocol)
    else Does (Acks cache (left_at level) ∷ []) l (Acknowledged id (level_of (left_at level)))
ack_by l id level cache what = Fails InvalidDeviceState

-- the oplock that the open has, if it has one
abbrev pub ack_of : Lists → ℕ → ℕ → Option Claim → Plan
ack_of l id level None = refused ((nat_lt 1 level, InvalidOplockProtocol) ∷ []) (Fails InvalidDeviceState)
ack_of l id level (Some cache) = ack_by l id level cache cache.what

-- of an open (3.3.5.22.1); a lease is acknowledged in a form of its own
abbrev pub ack_oplock : CoreState → Lists → ℕ → ℕ → Plan
ack_oplock s l level number =
    refused ((level == lease_level, InvalidParameter) ∷ [])
    (found (open_of number l) FileClosed (λ row. ack_of l (id_of s number) level (oplock_of row.file number s.claims)))

-- none, 0, reading, 1, or reading and the handle, 3, if the break leaves as much (SMB-21)
abbrev pub may_keep : ℕ → Break → Bool
may_keep state running = (state == 0 || (state == 1 || state == 3)) && rest_lies_within (kind_of_state state) running.target

-- the lease of this key, which holds this state
abbrev pub lease_left : Lease → Lease
lease_left lease = record { key = lease.key; state = lease.state; flags = 0; duration = 0 }

-- the break that runs of a cache, if one does
abbrev pub running_of : What → Option Break
running_of (whats.Cache kind running) = running
running_of what = None

-- if a break of its cache runs that is answered, so that this state is left
abbrev pub ack_cache : Lists → Lease → Claim → Plan
ack_cache l lease cache =
    found (running_of cache.what) Unsuccessful (λ running.
    refused ((not (may_keep lease.state running), RequestNotAccepted) ∷ [])
    (Does (Acks cache (kind_of_state lease.state) ∷ []) l (Answered (lease_left lease))))

-- of a lease (3.3.5.22.2); a key that only a CREATE has that waits is of none (SMB-21)
abbrev pub ack_lease : CoreState → Lists → List ℕ → Lease → Plan
ack_lease s l client lease =
    found (lease_row (record { client = client; key = lease.key }) l) ObjectNameNotFound (λ row.
    found (cache_of row.file (lease_party s.names client lease.key) s.claims) Unsuccessful (ack_cache l lease))

-- OPLOCK_BREAK: in a session, of an open under the connection, or of a lease of the client
abbrev pub break_by : CoreState → Lists → ℕ → List ℕ → Acknowledgement → Plan
break_by s l conn client (held.Oplock level id) = on_open (ack_oplock s l level) (open_named s l conn id)
break_by s l conn client (held.Lease lease) = ack_lease s l client lease

unfoldable pub acknowledge : CoreState → Lists → ℕ → List ℕ → SmbHead → Acknowledgement → Plan
acknowledge s l conn client h b = in_session (λ session. break_by s l conn client b) (session_named s l conn h.session_id)
