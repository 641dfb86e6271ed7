-- The lock that stands against another, as it is sent (RFC 7531, LOCK4denied).
use Rattle.std.specs.Prelude.{ℕ, Bool, true, nat_le, if◌then◌else◌, List, length, codes, Option, Some, None, slice_get}
use Rattle.std.specs.List.{find}
use Rattle.xl_base.specs.declared.name.Owner.{Owner}
use Rattle.xl_base.specs.declared.name.Owner.TheVariants as owners
use Rattle.xl_matrix.specs.declared.claim.Claim.{Claim}
use Rattle.xl_matrix.specs.declared.claim.Extent.TheVariants.{Bytes}
use Rattle.xl_matrix.specs.declared.claim.What.{What}
use Rattle.xl_matrix.specs.declared.claim.What.TheVariants.{Range}
use Rattle.xl_names.specs.declared.name.Name.{Name}
use Rattle.xl_names.specs.declared.name.Name.TheVariants.{NfsRange}
use Rattle.xl_nfs.specs.Basics.{most_text_bytes}
use Rattle.xl_nfs.specs.declared.basics.LockType.{LockType}
use Rattle.xl_nfs.specs.declared.basics.LockType.TheVariants as types
use Rattle.xl_nfs.specs.declared.status.NfsStatus.TheVariants as statuses
use Rattle.xl_nfs_state.specs.State.{NfsLists, is_client_named}
use Rattle.xl_nfs_state.specs.declared.client.ClientRow.{ClientRow}
use Rattle.xl_core.specs.State.{CoreState}
use Rattle.xl_core.specs.declared.ask.Answer.{Answer}
use Rattle.xl_core.specs.declared.ask.Answer.TheVariants as answers
use Rattle.xl_nfs_locks.specs.Ranges.{length_of}
use Rattle.xl_nfs_opens.specs.Asks.{all_ones}
use Rattle.xl_core.specs.Ids.{id_of}
use Rattle.xl_nfs_opens.specs.Opens.{answer_status}
use Rattle.xl_nfs_opens.specs.declared.told.HeldLock.{HeldLock}
use Rattle.xl_nfs_opens.specs.declared.told.Told.{Told}
use Rattle.xl_nfs_opens.specs.declared.told.Told.TheVariants.{Ended, Denied}

abbrev pub clientid_by : CoreState → Option ClientRow → ℕ
clientid_by s None = 0
clientid_by s (Some c) = id_of s c.number

-- the clientid and the bytes of an NFSv4 lock owner, which has 1,024 of these at most; of an owner of NLM 0 and `nlm` (NFS-28)
abbrev pub named_parts : CoreState → NfsLists → Option Name → ℕ × List ℕ
named_parts s l (Some (NfsRange id owner)) =
    if nat_le (length owner) most_text_bytes then (clientid_by s (find (is_client_named id true) l.clients), owner) else (0, codes "nlm")
named_parts s l _ = (0, codes "nlm")

-- the same of who holds a lock; of an SMB open 0 and `smb` (NFS-28)
abbrev pub holder_parts : CoreState → NfsLists → Owner → ℕ × List ℕ
holder_parts s l (owners.Name protocol number) = named_parts s l (slice_get s.names number)
holder_parts s l (owners.Open number) = (0, codes "smb")

abbrev pub kind_of : Bool → LockType
kind_of exclusive = if exclusive then types.Write else types.Read

-- the lock that is sent: its first byte, its length and its type, and who holds it; what is no range is sent as all
-- bytes
abbrev pub held_by : ℕ × List ℕ → What → HeldLock
held_by who (Range (Bytes first last) exclusive) = record { offset = first; len = length_of first last; kind = kind_of exclusive; clientid = who.0; owner = who.1 }
held_by who _ = record { offset = 0; len = all_ones; kind = types.Write; clientid = who.0; owner = who.1 }

abbrev pub held_lock : CoreState → NfsLists → Claim → HeldLock
held_lock s l c = held_by (holder_parts s l c.owner) c.what

-- what is sent by the core's answer
abbrev pub lock_told : CoreState → NfsLists → Bool → Answer → Told
lock_told s l reclaim (answers.Conflict c) = if reclaim then Ended statuses.ReclaimConflict else Denied (held_lock s l c)
lock_told s l reclaim answer = Ended (answer_status reclaim answer)
