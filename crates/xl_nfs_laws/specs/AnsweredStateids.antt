-- What a request on a stateid is judged by, and the stateid that it is answered (RFC 7530 9.1.4, 9.1.7).
use Rattle.std.specs.Prelude.{◌≡◌, ℕ, ◌+◌, ◌-◌, ◌^◌, ◌<◌, Bool, false, ◌⊎◌, Option, Some, None}
use Rattle.std.specs.List.{AllByRecursion, find}
use Rattle.xl_nfs.specs.declared.basics.LockType.{LockType}
use Rattle.xl_nfs.specs.declared.basics.LockType.TheVariants as types
use Rattle.xl_nfs.specs.declared.basics.Stateid.{Stateid}
use Rattle.xl_nfs.specs.declared.status.NfsStatus.{NfsStatus}
use Rattle.xl_nfs.specs.declared.status.NfsStatus.TheVariants as statuses
use Rattle.xl_nfs_state.specs.State.{NfsLists, is_stateid, is_whose, with_stateids, without}
use Rattle.xl_nfs_state.specs.Verdict.{next_seqid}
use Rattle.xl_nfs_state.specs.declared.owner.OwnerKind.TheVariants as kinds
use Rattle.xl_nfs_state.specs.declared.owner.OwnerRow.{OwnerRow}
use Rattle.xl_nfs_state.specs.declared.owner.SeqidState.{SeqidState}
use Rattle.xl_nfs_state.specs.declared.stateid.Holder.TheVariants as holders
use Rattle.xl_nfs_state.specs.declared.stateid.StateidRow.{StateidRow}
use Rattle.xl_nfs_state.specs.declared.stateid.Whose.TheVariants as whose
use Rattle.xl_core.specs.State.{CoreState, drawn}
use Rattle.xl_nfs_locks.specs.FirstLocks.{can_enter, counted_both}
use Rattle.xl_nfs_locks.specs.declared.joining.BothOwners.{BothOwners}
use Rattle.xl_nfs_laws.specs.LockStateids.{IsLocksOf}
use Rattle.xl_nfs_laws.specs.OpenLaws.{IsOpenOf}
use Rattle.xl_nfs_opens.specs.Plans.{Outcome}
use Rattle.xl_nfs_opens.specs.Renewing.{number_of as number_in_other, stateid_of}
use Rattle.xl_nfs_opens.specs.Results.{spelled}
use Rattle.xl_nfs_opens.specs.Seqids.{is_opener, opener_number}
use Rattle.xl_nfs_opens.specs.declared.opener.Opener.{Opener}
use Rattle.xl_nfs_opens.specs.declared.told.Told.TheVariants.{State}

-- ---- what passes, and what is out of order

-- the open is on the current file and not closed, and the seqid is the one after its owner's last, whose requests have come this far
pub record IsNextOnOpen (s : CoreState) (l : NfsLists) (current : Option ℕ) (seqid : ℕ) (stateid : Stateid) (r : StateidRow) (w : ℕ) (seqids : SeqidState) : Type 0 where
  pub row : OwnerRow
  pub opened : IsOpenOf s l stateid r w row
  pub file : current ≡ Some r.file
  pub live : r.standing.closed ≡ false
  pub seqids_is : seqids ≡ row.seqids
  pub seqid_is : seqid ≡ next_seqid row.seqids.seqid

-- the seqid is neither the one after the owner's last, nor the last with the operation of the last
pub record IsAstray (o : OwnerRow) (op seqid : ℕ) : Type 0 where
  pub not_next : seqid ≡ next_seqid o.seqids.seqid → ⊥
  pub not_last : seqid ≡ o.seqids.seqid → op ≡ o.seqids.op → ⊥

-- the stateid is of an open that is on the current file and not closed, and its owner's seqid is astray
pub record IsOutOfOrder (s : CoreState) (l : NfsLists) (current : Option ℕ) (op seqid : ℕ) (stateid : Stateid) : Type 0 where
  pub row : StateidRow
  pub number : ℕ
  pub owner : OwnerRow
  pub opened : IsOpenOf s l stateid row number owner
  pub file : current ≡ Some row.file
  pub live : row.standing.closed ≡ false
  pub astray : IsAstray owner op seqid

-- the same of locks
pub record AreLocksOutOfOrder (s : CoreState) (l : NfsLists) (current : Option ℕ) (op seqid : ℕ) (stateid : Stateid) : Type 0 where
  pub row : StateidRow
  pub number : ℕ
  pub owner : OwnerRow
  pub locks : IsLocksOf s l stateid row number owner
  pub file : current ≡ Some row.file
  pub live : row.standing.closed ≡ false
  pub astray : IsAstray owner op seqid

-- the statuses with which a stateid is refused by what it names, or by its owner's seqid
abbrev pub IsCheckStatus : NfsStatus → Type 0
IsCheckStatus status = (status ≡ statuses.NoFileHandle) ⊎ (status ≡ statuses.StaleStateid) ⊎ (status ≡ statuses.BadStateid) ⊎ (status ≡ statuses.BadSeqid)

-- ---- what is answered

-- The request named a stateid that was there, by its own seqid. What it is answered is the stateid of the same number,
-- which is there then, with the seqid that it has then, the one after: of the same owner, client and file, and closed
-- or not.
pub record IsAnswered (s : CoreState) (l : NfsLists) (asked told : Stateid) (closed : Bool) (done : Outcome) : Type 0 where
  pub was : StateidRow
  pub row : StateidRow
  pub named : number_in_other s asked.other ≡ Some was.number
  pub found : find (is_stateid was.number) l.stateids ≡ Some was
  pub seqid : asked.seqid ≡ was.standing.seqid
  pub stands : find (is_stateid was.number) done.3.stateids ≡ Some row
  pub told_is : told ≡ stateid_of done.4 was.number row.standing.seqid
  pub advanced : row.standing.seqid ≡ next_seqid was.standing.seqid
  pub holder : row.holder ≡ was.holder
  pub client : row.client ≡ was.client
  pub file : row.file ≡ was.file
  pub closed_is : row.standing.closed ≡ closed

-- ---- the bytes and the type of a lock

-- The range has no bytes, or goes past the last byte that there is and isn't of all from its first (RFC 7530 16.10.4).
abbrev pub IsNoRange : ℕ → ℕ → Type 0
IsNoRange offset len = (len ≡ 0) ⊎ ((len ≡ 2 ^ 64 - 1 → ⊥) × (2 ^ 64 - 1 < offset + len))

-- An open of this access has no lock of this type: one for reading, which is 1 or 3, has those for reading, and one for
-- writing, which is 2 or 3, those for writing.
abbrev pub IsBeyond : LockType → ℕ → Type 0
IsBeyond types.Read access = (access ≡ 1 → ⊥) × (access ≡ 3 → ⊥)
IsBeyond types.ReadWaiting access = (access ≡ 1 → ⊥) × (access ≡ 3 → ⊥)
IsBeyond types.Write access = (access ≡ 2 → ⊥) × (access ≡ 3 → ⊥)
IsBeyond types.WriteWaiting access = (access ≡ 2 → ⊥) × (access ≡ 3 → ⊥)

-- ---- owners of locks

-- an owner of locks has closed nothing by its last request, since it makes no CLOSE
abbrev pub LockersCloseNothing : NfsLists → Type 0
LockersCloseNothing l = AllByRecursion (λ (o : OwnerRow). o.name.kind ≡ kinds.Lock → o.seqids.closed ≡ None) l.owners

-- what is remembered once a LOCK under an open, by a lock owner without a stateid there, counted with both owners
abbrev pub counted_new : CoreState → NfsLists → BothOwners → Opener → NfsLists
counted_new s l b o = counted_both b o (spelled 12 (State (stateid_of (drawn s) (s.counter + 1) 1))) l

-- its stateid, under the open
abbrev pub new_locks : CoreState → NfsLists → BothOwners → Opener → StateidRow → StateidRow
new_locks s l b o r = record {
  number = s.counter + 1;
  client = r.client;
  file = r.file;
  holder = holders.Lock (opener_number o (counted_new s l b o)) r.number b.number;
  standing = record { seqid = 1; access = 0; deny = 0; closed = false };
}

-- it can come
abbrev pub can_join : CoreState → NfsLists → BothOwners → Opener → StateidRow → Bool
can_join s l b o r = can_enter (new_locks s l b o r) (with_stateids (counted_new s l b o) (without (is_whose (whose.Stateid (s.counter + 1))) (counted_new s l b o).stateids))

-- What a LOCK under this open is answered is the stateid of the lock owner's locks on the open's file: it is there then, under
-- the open, with its own seqid, isn't closed, and its owner is there.
pub record AreLocksUnder (r : StateidRow) (o : Opener) (told : Stateid) (done : Outcome) : Type 0 where
  pub row : StateidRow
  pub owner : OwnerRow
  pub opener : ℕ
  pub found : find (is_stateid row.number) done.3.stateids ≡ Some row
  pub told_is : told ≡ stateid_of done.4 row.number row.standing.seqid
  pub client : row.client ≡ r.client
  pub file : row.file ≡ r.file
  pub its : find (is_opener o) done.3.owners ≡ Some owner
  pub holder : row.holder ≡ holders.Lock owner.number r.number opener
  pub live : row.standing.closed ≡ false
