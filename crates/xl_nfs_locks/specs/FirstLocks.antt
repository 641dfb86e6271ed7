-- LOCK under an open, by a lock owner that has no stateid there yet, or has one (RFC 7530 16.10, open_to_lock_owner4).
use Rattle.std.specs.Prelude.{◌≡◌, ℕ, ◌+◌, Bool, true, false, not, ◌&&◌, ◌==◌, if◌then◌else◌, List, [], ◌∷◌, ◌++◌, Option, Some, None, is_some, IfSome, Result}
use Rattle.std.specs.List.{find}
use Rattle.xl_nfs.specs.Locks.{LockArgsItem, NewLockerItem, LockerItem, New, Known}
use Rattle.xl_nfs.specs.declared.status.NfsStatus.{NfsStatus}
use Rattle.xl_nfs.specs.declared.status.NfsStatus.TheVariants as statuses
use Rattle.xl_nfs_state.specs.Keys.{same_place, place_of}
use Rattle.xl_nfs_state.specs.State.{NfsLists, with_stateids, without, is_kept, is_stateid, is_under, is_whose, owned_on, can_hang}
use Rattle.xl_nfs_state.specs.Verdict.{verdict}
use Rattle.xl_nfs_state.specs.declared.client.ClientRow.{ClientRow}
use Rattle.xl_nfs_state.specs.declared.kept.KeptRow.{KeptRow}
use Rattle.xl_nfs_state.specs.declared.owner.OwnerRow.{OwnerRow}
use Rattle.xl_nfs_state.specs.declared.owner.SeqidState.{SeqidState}
use Rattle.xl_nfs_state.specs.declared.seqid.SeqidVerdict.{SeqidVerdict}
use Rattle.xl_nfs_state.specs.declared.seqid.SeqidVerdict.TheVariants as verdicts
use Rattle.xl_nfs_state.specs.declared.stateid.Holder.TheVariants as holders
use Rattle.xl_nfs_state.specs.declared.stateid.StateidRow.{StateidRow}
use Rattle.xl_nfs_state.specs.declared.stateid.Whose.TheVariants as whose
use Rattle.xl_core.specs.Deeds.{Draws}
use Rattle.xl_core.specs.State.{CoreState, drawn}
use Rattle.xl_core.specs.declared.ask.Answer.{Answer}
use Rattle.xl_nfs_locks.specs.Denials.{lock_told}
use Rattle.xl_nfs_locks.specs.Locks.{lock_end, lock_known}
use Rattle.xl_nfs_locks.specs.Ranges.{last_byte, lock_ask}
use Rattle.xl_nfs_locks.specs.Tests.{locker_of}
use Rattle.xl_nfs_locks.specs.declared.joining.BothOwners.{BothOwners}
use Rattle.xl_nfs_locks.specs.declared.joining.Joined.{Joined}
use Rattle.xl_nfs_locks.specs.declared.joining.Joined.TheVariants.{Bad, Again, Joins}
use Rattle.xl_nfs_opens.specs.Closing.{checked, counts, standing_fault, failed, next_seqids, state_told}
use Rattle.xl_core.specs.Ids.{number_in}
use Rattle.xl_nfs_opens.specs.Checks.{found, passed, unless, refused_by}
use Rattle.xl_nfs_opens.specs.Opens.{share_none, all_rooms, client_in, is_granted, live, stood}
use Rattle.xl_plan.specs.Plans.{Does, Asking}
use Rattle.xl_nfs_opens.specs.Operations.{op_lock}
use Rattle.xl_nfs_opens.specs.Plans.{Plan, status_of}
use Rattle.xl_nfs_opens.specs.Renewing.{first_seqid, stateid_of, state_client, renewing}
use Rattle.xl_nfs_opens.specs.Results.{spelled}
use Rattle.xl_nfs_opens.specs.Seqids.{advances, counted, is_opener, is_room_for, opener_number, remembered}
use Rattle.xl_nfs_opens.specs.declared.opener.Checked.{Checked}
use Rattle.xl_nfs_opens.specs.declared.opener.Opener.{Opener}
use Rattle.xl_nfs_opens.specs.declared.told.Told.{Told}
use Rattle.xl_nfs_opens.specs.declared.told.Told.TheVariants.{Ended, State, Kept}

-- ---- with whose seqids it counts (9.1.8)

-- the open's owner has come this far with it, and the result is kept for it (NFS-24)
abbrev pub counted_open : BothOwners → List ℕ → NfsLists → NfsLists
counted_open b bytes l = counted b.number b.seqids.closed (next_seqids op_lock b.open_seqid b.seqids.confirmed None) bytes l

-- so has the lock owner, which comes if it is new
abbrev pub counted_both : BothOwners → Opener → List ℕ → NfsLists → NfsLists
counted_both b o bytes l = remembered o (next_seqids op_lock b.lock_seqid true None) bytes (counted_open b bytes l)

-- it was refused, and counts with both if its status does (NFS-24)
abbrev pub both_refused : NfsLists → Option ℕ → BothOwners → Opener → Told → Plan
both_refused l current b o told = Does [] (if advances (status_of told) then counted_both b o (spelled op_lock told) l else l) (told, current)

abbrev pub both_ended : NfsLists → Option ℕ → BothOwners → Opener → NfsStatus → Plan
both_ended l current b o status = both_refused l current b o (Ended status)

-- it was refused before the lock owner was known, and counts with the open's owner if its status does
abbrev pub open_failed : NfsLists → Option ℕ → BothOwners → NfsStatus → Plan
open_failed l current b status = failed l current b.number b.seqids op_lock b.open_seqid status

-- ---- the stateid

-- the lock owner's stateid under the open, new
abbrev pub lock_row : ℕ → StateidRow → ℕ → ℕ → StateidRow
lock_row number r opener owner = record {
  number = number;
  client = r.client;
  file = r.file;
  holder = holders.Lock owner r.number opener;
  standing = record { seqid = first_seqid; access = share_none; deny = share_none; closed = false };
}

-- what the locks hang on is there, and nothing else stands in their place
abbrev pub can_enter : StateidRow → NfsLists → Bool
can_enter r l = not (is_some (find (λ s. same_place (place_of r) (place_of s)) l.stateids)) && can_hang l r

abbrev pub entered_in : StateidRow → NfsLists → NfsLists
entered_in r l = if can_enter r l then with_stateids l (l.stateids ++ r ∷ []) else l

-- a stateid of locks comes, and nothing stays that stood under its number before
unfoldable pub entered : StateidRow → NfsLists → NfsLists
entered r l = entered_in r (with_stateids l (without (is_whose (whose.Stateid r.number)) l.stateids))

-- ---- by the core's answer

-- it takes the next number
abbrev pub joined_new : CoreState → NfsLists → Option ℕ → BothOwners → Opener → StateidRow → Plan
joined_new s l current b o r =
    let told = State (stateid_of (drawn s) (s.counter + 1) first_seqid) in
    let m = counted_both b o (spelled op_lock told) l in
    Does (Draws ∷ []) (entered (lock_row (s.counter + 1) r b.number (opener_number o m)) m) (told, current)

-- the owner has one under the open: its seqid is the next (NFS-26)
abbrev pub joined_more : CoreState → NfsLists → Option ℕ → BothOwners → Opener → StateidRow → Plan
joined_more s l current b o q = Does [] (counted_both b o (spelled op_lock (state_told s q)) (stood q.number q share_none share_none false l)) (state_told s q, current)

abbrev pub joined_by : CoreState → NfsLists → Option ℕ → BothOwners → Opener → StateidRow → Option StateidRow → Plan
joined_by s l current b o r None = joined_new s l current b o r
joined_by s l current b o r (Some q) = joined_more s l current b o q

abbrev pub join_answered : NfsLists → Option ℕ → BothOwners → Opener → StateidRow → Option StateidRow → Bool → Answer → CoreState → Plan
join_answered l current b o r q reclaim answer s =
    if is_granted answer then joined_by s l current b o r q else both_refused l current b o (lock_told s l reclaim answer)

-- ---- the range, the open's access, and room for the lock owner

abbrev pub join_to : NfsLists → Option ℕ → LockArgsItem → BothOwners → Opener → StateidRow → Option StateidRow → Result ℕ NfsStatus → Plan
join_to l current a b o r q end =
    passed end (both_ended l current b o) (λ last.
    refused_by (both_ended l current b o) ((not (is_room_for o l), statuses.Resource) ∷ [])
    (Asking all_rooms (lock_ask o r.file a.kind a.reclaim a.offset last) (join_answered l current b o r q a.reclaim)))

abbrev pub join_in : NfsLists → Option ℕ → LockArgsItem → BothOwners → Opener → StateidRow → Option StateidRow → Plan
join_in l current a b o r q = join_to l current a b o r q (lock_end a.kind r.standing.access (last_byte a.offset a.len))

-- ---- the lock owner's seqid

abbrev pub by_verdict : OwnerRow → Option StateidRow → SeqidVerdict → Joined
by_verdict w q verdicts.Repeat = Again w.number
by_verdict w q (verdicts.Bad last) = Bad
by_verdict w q _ = Joins q

-- an owner has its locks on a file under one open (NFS-26)
abbrev pub fits_under : ℕ → Option StateidRow → Bool
fits_under number None = true
fits_under number (Some q) = is_under number q.holder

abbrev pub by_owner : StateidRow → OwnerRow → ℕ → Option StateidRow → Joined
by_owner r w seqid q = if fits_under r.number q then by_verdict w q (verdict (Some w.seqids) op_lock seqid) else Bad

abbrev pub by_row : NfsLists → StateidRow → ℕ → Option OwnerRow → Joined
by_row l r seqid None = Joins None
by_row l r seqid (Some w) = by_owner r w seqid (live (find (owned_on w.number r.file) l.stateids))

-- what the lock owner's seqid says, and what it has under the open; a new owner may begin anywhere (NFS-24)
unfoldable pub found_joined : NfsLists → StateidRow → Opener → ℕ → Joined
found_joined l r o seqid = by_row l r seqid (find (is_opener o) l.owners)

-- its last LOCK comes again: the kept result is the answer, with which the open's owner counts (NFS-25)
abbrev pub join_again : NfsLists → Option ℕ → BothOwners → Option KeptRow → Plan
join_again l current b None = Does [] l (Ended statuses.BadSeqid, current)
join_again l current b (Some k) = Does [] (counted_open b k.result l) (Kept k.result, current)

abbrev pub join_as : NfsLists → Option ℕ → LockArgsItem → BothOwners → Opener → StateidRow → Joined → Plan
join_as l current a b o r Bad = Does [] l (Ended statuses.BadSeqid, current)
join_as l current a b o r (Again owner) = join_again l current b (find (is_kept owner) l.kept)
join_as l current a b o r (Joins q) = join_in l current a b o r q

-- ---- the checks of the open, in their order

-- the lock owner, if it is of the open's client (NFS-24)
abbrev pub locker_under : StateidRow → List ℕ → Option ClientRow → Option Opener
locker_under r owner None = None
locker_under r owner (Some c) = if c.number == r.client then Some (locker_of c owner) else None

abbrev pub join_of : NfsLists → Option ℕ → LockArgsItem → NewLockerItem → BothOwners → StateidRow → Option Opener → Plan
join_of l current a x b r locker = found locker (open_failed l current b statuses.Inval) (λ o. join_as l current a b o r (found_joined l r o x.lock_seqid))

abbrev pub join_standing : CoreState → NfsLists → Option ℕ → LockArgsItem → NewLockerItem → BothOwners → StateidRow → Option NfsStatus → Plan
join_standing s l current a x b r fault = unless fault (open_failed l current b) (join_of l current a x b r (locker_under r x.owner.owner (client_in s l x.owner.clientid)))

abbrev pub both_of : NewLockerItem → ℕ → SeqidState → BothOwners
both_of x owner seqids = record { number = owner; seqids = seqids; open_seqid = x.open_seqid; lock_seqid = x.lock_seqid }

abbrev pub join_checked : CoreState → NfsLists → Option ℕ → LockArgsItem → NewLockerItem → Checked → Plan
join_checked s l current a x c = counts s l current (λ r owner seqids. join_standing s l current a x (both_of x owner seqids) r (standing_fault r seqids x.open_stateid.seqid true)) c

-- behind the renewal of the lock owner's client
unfoldable pub lock_named : CoreState → NfsLists → Option ℕ → LockArgsItem → NewLockerItem → Plan
lock_named s l current a x = renewing l (number_in s x.owner.clientid) (λ t. join_checked t l current a x (checked t l current op_lock x.open_seqid x.open_stateid))

-- behind the renewal of the open's client
unfoldable pub lock_new : CoreState → NfsLists → Option ℕ → LockArgsItem → NewLockerItem → Plan
lock_new s l current a x = renewing l (state_client s l x.open_stateid) (λ t. lock_named t l current a x)

-- ---- LOCK (16.10)

abbrev pub lock_by : CoreState → NfsLists → Option ℕ → LockArgsItem → LockerItem → Plan
lock_by s l current a (New x) = lock_new s l current a x
lock_by s l current a (Known x) = lock_known s l current a x

unfoldable pub lock : CoreState → NfsLists → Option ℕ → LockArgsItem → Plan
lock s l current a = lock_by s l current a a.locker

-- what was found is there: the lock owner's stateid, which isn't closed
abbrev pub IsJoined : NfsLists → Joined → Type 0
IsJoined l (Joins q) = IfSome q (λ r. (find (is_stateid r.number) l.stateids ≡ Some r) × (r.standing.closed ≡ false))
IsJoined l _ = Unit {0}
