-- What a lock's stateid is judged by, and what the last LOCK of a lock owner leaves that comes again (RFC 7530 9.1.7, 9.1.8).
use Rattle.std.specs.Prelude.{◌≡◌, ℕ, false, List, Option, Some, None}
use Rattle.std.specs.List.{find}
use Rattle.xl_nfs.specs.declared.basics.Stateid.{Stateid}
use Rattle.xl_nfs_state.specs.State.{NfsLists, is_owner, is_stateid}
use Rattle.xl_nfs_state.specs.Verdict.{next_seqid}
use Rattle.xl_nfs_state.specs.declared.owner.OwnerRow.{OwnerRow}
use Rattle.xl_nfs_state.specs.declared.owner.SeqidState.{SeqidState}
use Rattle.xl_nfs_state.specs.declared.stateid.Holder.TheVariants as holders
use Rattle.xl_nfs_state.specs.declared.stateid.StateidRow.{StateidRow}
use Rattle.xl_core.specs.State.{CoreState}
use Rattle.xl_nfs_laws.specs.OpenSeqids.{seqids_after, HasAdvanced}
use Rattle.xl_nfs_opens.specs.Plans.{Outcome}
use Rattle.xl_nfs_opens.specs.Renewing.{number_of as number_in_other}
use Rattle.xl_nfs_opens.specs.Seqids.{is_opener}
use Rattle.xl_nfs_opens.specs.declared.opener.Opener.{Opener}
use Rattle.xl_nfs_opens.specs.declared.told.Told.TheVariants.{Kept}

-- the stateid is of this start, and of these locks, which are of the owner of number w
pub record IsLocksOf (s : CoreState) (l : NfsLists) (stateid : Stateid) (r : StateidRow) (w : ℕ) (o : OwnerRow) : Type 0 where
  pub under : ℕ
  pub opener : ℕ
  pub number : number_in_other s stateid.other ≡ Some r.number
  pub found : find (is_stateid r.number) l.stateids ≡ Some r
  pub holder : r.holder ≡ holders.Lock w under opener
  pub owner : find (is_owner w) l.owners ≡ Some o

-- the locks are on the current file and not closed, and the seqid is the one after their owner's last, whose requests have come
-- this far
pub record IsNextOn (s : CoreState) (l : NfsLists) (current : Option ℕ) (seqid : ℕ) (stateid : Stateid) (r : StateidRow) (w : ℕ) (seqids : SeqidState) : Type 0 where
  pub row : OwnerRow
  pub locks : IsLocksOf s l stateid r w row
  pub file : current ≡ Some r.file
  pub live : r.standing.closed ≡ false
  pub seqids_is : seqids ≡ row.seqids
  pub seqid_is : seqid ≡ next_seqid row.seqids.seqid

-- These bytes are sent again. The owner of the open, which was so before, advances by the LOCK, which is kept for it;
-- the lock owner stays as it was, and the core stays.
pub record HasComeAgain (owner : ℕ) (was : OwnerRow) (o : Opener) (bytes : List ℕ) (l : NfsLists) (s : CoreState) (r : Outcome) : Type 0 where
  pub told : r.0 ≡ Kept bytes
  pub open_owner : HasAdvanced owner was (seqids_after was 12 was.seqids.confirmed None) bytes l r.3
  pub lock_owner : find (is_opener o) r.3.owners ≡ find (is_opener o) l.owners
  pub core : r.4 ≡ s
