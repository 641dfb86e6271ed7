-- LOCK by a lock owner that has a stateid under the open (RFC 7530 16.10).
use Rattle.std.specs.Prelude.{ℕ, Bool, true, false, not, if◌then◌else◌, [], ◌∷◌, Option, Some, None, Result, Ok, Err}
use Rattle.std.specs.List.{find}
use Rattle.xl_nfs.specs.Locks.{LockArgsItem}
use Rattle.xl_nfs.specs.declared.basics.LockType.{LockType}
use Rattle.xl_nfs.specs.declared.locks.KnownLocker.{KnownLocker}
use Rattle.xl_nfs.specs.declared.status.NfsStatus.{NfsStatus}
use Rattle.xl_nfs.specs.declared.status.NfsStatus.TheVariants as statuses
use Rattle.xl_nfs_state.specs.State.{NfsLists, is_stateid}
use Rattle.xl_nfs_state.specs.declared.owner.SeqidState.{SeqidState}
use Rattle.xl_nfs_state.specs.declared.stateid.Holder.{Holder}
use Rattle.xl_nfs_state.specs.declared.stateid.Holder.TheVariants as holders
use Rattle.xl_nfs_state.specs.declared.stateid.StateidRow.{StateidRow}
use Rattle.xl_core.specs.State.{CoreState}
use Rattle.xl_core.specs.declared.ask.Answer.{Answer}
use Rattle.xl_nfs_locks.specs.Checks.{locks_found}
use Rattle.xl_nfs_locks.specs.Denials.{lock_told}
use Rattle.xl_nfs_locks.specs.Ranges.{last_byte, lock_ask, may_lock}
use Rattle.xl_nfs_opens.specs.Closing.{counts, standing_fault, failed, told_lists, done_lists, state_told, opener_by}
use Rattle.xl_nfs_opens.specs.Checks.{found, passed, unless, refused_by}
use Rattle.xl_nfs_opens.specs.Opens.{share_none, all_rooms, is_granted}
use Rattle.xl_plan.specs.Plans.{Does, Asking}
use Rattle.xl_nfs_opens.specs.Operations.{op_lock}
use Rattle.xl_nfs_opens.specs.Plans.{Plan}
use Rattle.xl_nfs_opens.specs.Renewing.{state_client, renewing}
use Rattle.xl_nfs_opens.specs.declared.opener.Checked.{Checked}
use Rattle.xl_nfs_opens.specs.declared.opener.Opener.{Opener}
use Rattle.xl_nfs_opens.specs.declared.told.Told.{Told}
use Rattle.xl_nfs_opens.specs.declared.told.Told.TheVariants.{Ended}

-- ---- by the core's answer

-- it was refused, and is kept if its status counts
abbrev pub refused_lists : NfsLists → ℕ → SeqidState → ℕ → Told → NfsLists
refused_lists l owner seqids seqid told = told_lists l owner seqids op_lock seqid told

abbrev pub lock_refused : NfsLists → Option ℕ → ℕ → SeqidState → ℕ → Told → Plan
lock_refused l current owner seqids seqid told = Does [] (refused_lists l owner seqids seqid told) (told, current)

abbrev pub lock_answered : NfsLists → Option ℕ → StateidRow → ℕ → SeqidState → ℕ → Bool → Answer → CoreState → Plan
lock_answered l current r owner seqids seqid reclaim answer s =
    if is_granted answer then Does [] (done_lists s l r owner seqids op_lock seqid seqids.confirmed None share_none share_none false) (state_told s r, current)
    else lock_refused l current owner seqids seqid (lock_told s l reclaim answer)

abbrev pub lock_by_owner : NfsLists → Option ℕ → LockArgsItem → StateidRow → ℕ → SeqidState → ℕ → ℕ → Option Opener → Plan
lock_by_owner l current a r owner seqids seqid last None = Does [] l (Ended statuses.ServerFault, current)
lock_by_owner l current a r owner seqids seqid last (Some o) =
    Asking all_rooms (lock_ask o r.file a.kind a.reclaim a.offset last) (lock_answered l current r owner seqids seqid a.reclaim)

-- ---- the checks in their order

-- the access of the open above the locks
abbrev pub access_of : Option StateidRow → ℕ
access_of None = share_none
access_of (Some r) = r.standing.access

abbrev pub access_above : NfsLists → Holder → ℕ
access_above l (holders.Lock owner under opener) = access_of (find (is_stateid under) l.stateids)
access_above l _ = share_none

-- the last byte of the range, if it has one and the open's access allows the lock; else the first check that fails
abbrev pub lock_end : LockType → ℕ → Option ℕ → Result ℕ NfsStatus
lock_end kind access end = found end (Err statuses.Inval) (λ last. refused_by Err ((not (may_lock kind access), statuses.OpenMode) ∷ []) (Ok last))

-- the range, and the open's access
abbrev pub lock_to : NfsLists → Option ℕ → LockArgsItem → StateidRow → ℕ → SeqidState → ℕ → Result ℕ NfsStatus → Plan
lock_to l current a r owner seqids seqid end =
    passed end (failed l current owner seqids op_lock seqid) (λ last. lock_by_owner l current a r owner seqids seqid last (opener_by l r.client owner))

-- before these the stateid's own seqid
abbrev pub lock_standing : NfsLists → Option ℕ → LockArgsItem → StateidRow → ℕ → SeqidState → ℕ → Option NfsStatus → Plan
lock_standing l current a r owner seqids seqid fault =
    unless fault (failed l current owner seqids op_lock seqid) (lock_to l current a r owner seqids seqid (lock_end a.kind (access_above l r.holder) (last_byte a.offset a.len)))

abbrev pub lock_found : CoreState → NfsLists → Option ℕ → LockArgsItem → KnownLocker → Checked → Plan
lock_found s l current a x c = counts s l current (λ r owner seqids. lock_standing l current a r owner seqids x.seqid (standing_fault r seqids x.stateid.seqid true)) c

-- the client is renewed before
unfoldable pub lock_known : CoreState → NfsLists → Option ℕ → LockArgsItem → KnownLocker → Plan
lock_known s l current a x = renewing l (state_client s l x.stateid) (λ t. lock_found t l current a x (locks_found t l current op_lock x.seqid x.stateid))
