-- Owners, the seqids of their requests, and the results that are kept for these (RFC 7530 9.1.7, 9.1.8).
use Rattle.std.specs.Prelude.{ℕ, Bool, true, false, ◌||◌, if◌then◌else◌, List, [], ◌∷◌, ◌++◌, length, nat_le, Option, Some, None, is_some, Result, Ok, Err}
use Rattle.std.specs.List.{find}
use Rattle.xl_nfs.specs.Results.{ResultItem, result_status, nfs_result}
use Rattle.xl_nfs.specs.declared.status.NfsStatus.{NfsStatus}
use Rattle.xl_nfs.specs.declared.status.NfsStatus.TheVariants as statuses
use Rattle.xl_nfs.specs.Outcomes.{is_ok}
use Rattle.xl_nfs_state.specs.Bytes.{most_result_bytes}
use Rattle.xl_nfs_state.specs.Filed.{changed}
use Rattle.xl_nfs_state.specs.Rows.{with_seqids, with_result}
use Rattle.xl_nfs_state.specs.State.{NfsLists, with_owners, with_stateids, with_kept, without, is_owner, is_owner_named, is_kept, is_whose, next_owner}
use Rattle.xl_nfs_state.specs.declared.owner.OwnerRow.{OwnerRow}
use Rattle.xl_nfs_state.specs.declared.owner.SeqidState.{SeqidState}
use Rattle.xl_nfs_state.specs.declared.stateid.Whose.TheVariants as whose
use Rattle.xl_nfs_opens.specs.declared.opener.Opener.{Opener}

-- ---- what counts

-- a request that ends so counts: its owner's seqid advances, and the result is kept (NFS-14)
abbrev pub advances : NfsStatus → Bool
advances statuses.StaleClientId = false
advances statuses.StaleStateid = false
advances statuses.BadStateid = false
advances statuses.BadSeqid = false
advances statuses.BadXdr = false
advances statuses.Resource = false
advances statuses.NoFileHandle = false
advances _ = true

-- the owner's row
abbrev pub is_opener : Opener → OwnerRow → Bool
is_opener o r = is_owner_named o.client o.kind o.owner r

-- what its last request closed is known no more
abbrev pub closed_gone : Option ℕ → NfsLists → NfsLists
closed_gone None l = l
closed_gone (Some number) l = with_stateids l (without (is_whose (whose.Stateid number)) l.stateids)

-- a result is kept for the owner of this number, in the place of the one before
abbrev pub kept_for : ℕ → List ℕ → NfsLists → NfsLists
kept_for owner bytes l =
    if is_some (find (is_kept owner) l.kept) then with_kept l (changed (is_kept owner) (with_result bytes) l.kept)
    else if is_some (find (is_owner owner) l.owners) then with_kept l (l.kept ++ record { owner = owner; result = bytes } ∷ [])
    else l

-- the owner's requests have come this far
abbrev pub seqid_set : ℕ → SeqidState → NfsLists → NfsLists
seqid_set owner seqids l = with_owners l (changed (is_owner owner) (with_seqids seqids) l.owners)

-- A request of the owner of this number counted: its requests have come this far, what an earlier one closed is known no
-- more, and its result is kept (NFS-14).
unfoldable pub counted : ℕ → Option ℕ → SeqidState → List ℕ → NfsLists → NfsLists
counted owner closed seqids bytes l = kept_for owner bytes (closed_gone closed (seqid_set owner seqids l))

-- ---- an owner that may be new

abbrev pub is_room_for : Opener → NfsLists → Bool
is_room_for o l = is_some (find (is_opener o) l.owners) || is_some (next_owner l.owners)

abbrev pub number_or_none : Option ℕ → ℕ
number_or_none None = 0
number_or_none (Some number) = number

-- the number of the owner, or that which it gets
abbrev pub number_by : Option OwnerRow → Option ℕ → ℕ
number_by None next = number_or_none next
number_by (Some r) next = r.number

abbrev pub opener_number : Opener → NfsLists → ℕ
opener_number o l = number_by (find (is_opener o) l.owners) (next_owner l.owners)

abbrev pub new_owner : Opener → SeqidState → ℕ → OwnerRow
new_owner o seqids number = record { number = number; name = record { client = o.client; kind = o.kind; owner = o.owner }; seqids = seqids }

abbrev pub seated_new : Opener → SeqidState → NfsLists → Option ℕ → NfsLists
seated_new o seqids l None = l
seated_new o seqids l (Some number) = with_owners l (l.owners ++ new_owner o seqids number ∷ [])

abbrev pub seated_by : Opener → SeqidState → NfsLists → Option OwnerRow → NfsLists
seated_by o seqids l None = seated_new o seqids l (next_owner l.owners)
seated_by o seqids l (Some r) = closed_gone r.seqids.closed (seqid_set r.number seqids l)

-- the owner's requests have come this far: a new owner comes if there is room for it
unfoldable pub seated : Opener → SeqidState → NfsLists → NfsLists
seated o seqids l = seated_by o seqids l (find (is_opener o) l.owners)

-- a request of the owner counted; if there is no room for a new owner nothing is kept of it (NFS-14)
unfoldable pub remembered : Opener → SeqidState → List ℕ → NfsLists → NfsLists
remembered o seqids bytes l = if is_room_for o l then kept_for (opener_number o l) bytes (seated o seqids l) else l

-- ---- a result that is kept

abbrev pub read_status : {F : Type 0} → Result (ResultItem × List ℕ) F → NfsStatus
read_status (Ok read) = result_status read.0
read_status (Err fault) = statuses.ServerFault

-- how many bytes a result has at most, except that of a lock that is denied: as many as that of OPEN with no attributes
-- and a delegation for writing
abbrev pub most_short : ℕ
most_short = 104

abbrev pub is_short : List ℕ → Bool
is_short bytes = nat_le (length bytes) most_short

-- how the operation ended whose result these bytes are: a longer one is that of a lock that was denied (NFS-14)
unfoldable pub kept_status : List ℕ → NfsStatus
kept_status bytes = if is_short bytes then read_status (nfs_result.at bytes) else statuses.Denied

-- how many bytes the result of an operation has at most that ended so: the holder of a lock is sent if one is denied
abbrev pub most_told : NfsStatus → ℕ
most_told status = if is_ok status then most_short else most_result_bytes
