-- What operations that are OK have done: the share of an open, locks that are held or free, what a CLOSE, a DELEGRETURN and a
-- RELEASE_LOCKOWNER leave nothing of, and a lease that runs anew (RFC 7530 9.5, 16.2, 16.6, 16.10 to 16.12, 16.28, 16.37).
use Rattle.std.specs.Prelude.{◌≡◌, ◌↔◌, ◌≤◌, ℕ, true, false, bytes_eq, [], ◌∷◌, Some, None, option_map}
use Rattle.std.specs.List.{find}
use Rattle.xl_base.specs.Lists.{IsIn}
use Rattle.xl_base.specs.declared.name.Owner.TheVariants as owners
use Rattle.xl_base.specs.declared.name.Protocol.TheVariants.{Nfs}
use Rattle.xl_matrix.specs.declared.claim.Claim.{Claim}
use Rattle.xl_names.specs.Names.{number_of}
use Rattle.xl_names.specs.declared.name.Name.TheVariants.{NfsRange, NfsShare}
use Rattle.xl_nfs.specs.Basics.{OwnerItem}
use Rattle.xl_nfs.specs.Locks.{LockArgsItem, LockTestArgsItem, LockerItem, New, NewLockerItem, Known}
use Rattle.xl_nfs.specs.Opens.{OpenArgsItem}
use Rattle.xl_nfs.specs.declared.basics.Stateid.{Stateid}
use Rattle.xl_nfs.specs.declared.locks.UnlockArgs.{UnlockArgs}
use Rattle.xl_nfs.specs.declared.opens.OpenDowngradeArgs.{OpenDowngradeArgs}
use Rattle.xl_nfs.specs.declared.status.NfsStatus.{NfsStatus}
use Rattle.xl_nfs_state.specs.State.{NfsLists, delegated_on, is_client, is_owner_named, is_stateid}
use Rattle.xl_nfs_state.specs.declared.client.ClientRow.{ClientRow}
use Rattle.xl_nfs_state.specs.declared.owner.OwnerKind.TheVariants as kinds
use Rattle.xl_nfs_state.specs.declared.owner.OwnerRow.{OwnerRow}
use Rattle.xl_nfs_state.specs.declared.stateid.Holder.TheVariants as holders
use Rattle.xl_nfs_state.specs.declared.stateid.StateidRow.{StateidRow}
use Rattle.xl_table.specs.Relock.{shares_of}
use Rattle.xl_core.specs.Askers.{asker}
use Rattle.xl_core.specs.Leases.{moment_after}
use Rattle.xl_core.specs.Places.{ByteOf, held_at}
use Rattle.xl_core.specs.Settle.{share_has}
use Rattle.xl_core.specs.State.{CoreState}
use Rattle.xl_nfs_locks.specs.Ranges.{last_byte, test_ask}
use Rattle.xl_nfs_locks.specs.Tests.{locker_of}
use Rattle.xl_nfs_opens.specs.Asks.{all_ones}
use Rattle.xl_nfs_opens.specs.Closing.{lock_owner, locks_under, opener_by}
use Rattle.xl_nfs_opens.specs.Opens.{cache_held, client_in, rights_of, share_ask, share_held}
use Rattle.xl_nfs_opens.specs.Plans.{Outcome, status_of}
use Rattle.xl_nfs_opens.specs.Renewing.{number_of as number_in_other}
use Rattle.xl_nfs_opens.specs.declared.opener.Opener.{Opener}
use Rattle.xl_nfs_opens.specs.declared.told.HeldLock.{HeldLock}
use Rattle.xl_nfs_opens.specs.declared.told.Told.TheVariants.{Denied}
use Rattle.xl_nfs_laws.specs.AnsweredStateids.{AreLocksUnder, IsAnswered}
use Rattle.xl_nfs_laws.specs.LockLaws.{AreFree, AreLocked, IsTestDenial, IsTestTold, owner_of, test_claim}
use Rattle.xl_nfs_laws.specs.LockOwners.{IsForgotten}
use Rattle.xl_nfs_laws.specs.OpenLaws.{IsShared}
use Rattle.xl_nfs_laws.specs.Orderly.{IsReturned}

-- ---- what a stateid names

-- the stateid is of this start and names this row
pub record IsNamed (s : CoreState) (l : NfsLists) (stateid : Stateid) (r : StateidRow) : Type 0 where
  pub number : number_in_other s stateid.other ≡ Some r.number
  pub found : find (is_stateid r.number) l.stateids ≡ Some r

-- ---- OPEN

-- the owner has one share on the file that is the current one then, with the access and the deny that were asked
abbrev pub HasShare : CoreState → Opener → OpenArgsItem → Outcome → Type 0
HasShare s o a done = (file : ℕ) → done.1 ≡ Some file → IsShared (rights_of a.access) (rights_of a.deny) (shares_of file (asker (share_ask None o a file) s.names) done.4.claims)

-- ---- OPEN_DOWNGRADE

-- The open that was named has just the access and the deny that were asked, and so has its owner's share on the file, if that had
-- these.
pub record IsDowngraded (s : CoreState) (l : NfsLists) (a : OpenDowngradeArgs) (done : Outcome) : Type 0 where
  pub access : (r : StateidRow) → IsNamed s l a.stateid r → option_map (λ (x : StateidRow). x.standing.access) (find (is_stateid r.number) done.3.stateids) ≡ Some a.access
  pub deny : (r : StateidRow) → IsNamed s l a.stateid r → option_map (λ (x : StateidRow). x.standing.deny) (find (is_stateid r.number) done.3.stateids) ≡ Some a.deny
  pub share : (r : StateidRow) (owner number : ℕ) (o : Opener) (claim : Claim) → IsNamed s l a.stateid r → r.holder ≡ holders.Open owner → opener_by l r.client owner ≡ Some o → number_of (NfsShare o.id o.owner) s.names ≡ Some number → share_held s o r.file ≡ Some claim → share_has claim.what (rights_of a.access) (rights_of a.deny) ≡ true
      → shares_of r.file (owners.Name Nfs number) done.4.claims ≡ (rights_of a.access, rights_of a.deny) ∷ []

-- ---- LOCK and LOCKU

-- The LOCK named an open by its stateid, and by its clientid the open's client. What it is told is the stateid of the lock owner's
-- locks on the open's file, which are under the open from then on.
pub record IsFirstTold (s : CoreState) (l : NfsLists) (x : NewLockerItem) (told : Stateid) (done : Outcome) : Type 0 where
  pub opened : StateidRow
  pub client : ClientRow
  pub named : IsNamed s l x.open_stateid opened
  pub client_is : client_in s l x.owner.clientid ≡ Some client
  pub own : client.number ≡ opened.client
  pub locks : AreLocksUnder opened (locker_of client x.owner.owner) told done

-- by a lock's stateid: it is the one that was named, by its next seqid; under an open: it is that of the lock owner's locks there
abbrev pub IsLockTold : CoreState → NfsLists → LockerItem → Stateid → Outcome → Type 0
IsLockTold s l (Known x) told done = IsAnswered s l x.stateid told false done
IsLockTold s l (New x) told done = IsFirstTold s l x told done

-- The range has a last byte. The owner of the locks that were named holds each of its bytes then, in the mode that was asked; at
-- each other byte, of each other owner and on each other file it is as before.
pub record AreKnownLocked (s : CoreState) (l : NfsLists) (stateid : Stateid) (a : LockArgsItem) (done : Outcome) : Type 0 where
  pub row : StateidRow
  pub owner : Opener
  pub last : ℕ
  pub named : IsNamed s l stateid row
  pub owner_is : opener_by l row.client (lock_owner row.holder) ≡ Some owner
  pub last_is : last_byte a.offset a.len ≡ Some last
  pub held : AreLocked owner row.file a.kind a.offset last s done.4

-- under an open: so does the lock owner that is named
pub record AreFirstLocked (s : CoreState) (l : NfsLists) (x : NewLockerItem) (a : LockArgsItem) (done : Outcome) : Type 0 where
  pub opened : StateidRow
  pub client : ClientRow
  pub last : ℕ
  pub named : IsNamed s l x.open_stateid opened
  pub client_is : client_in s l x.owner.clientid ≡ Some client
  pub last_is : last_byte a.offset a.len ≡ Some last
  pub held : AreLocked (locker_of client x.owner.owner) opened.file a.kind a.offset last s done.4

abbrev pub AreBytesLocked : CoreState → NfsLists → LockArgsItem → LockerItem → Outcome → Type 0
AreBytesLocked s l a (Known x) done = AreKnownLocked s l x.stateid a done
AreBytesLocked s l a (New x) done = AreFirstLocked s l x a done

-- The range has a last byte. The owner of the locks that were named holds none of its bytes then; elsewhere it is as before.
pub record AreUnlocked (s : CoreState) (l : NfsLists) (a : UnlockArgs) (done : Outcome) : Type 0 where
  pub row : StateidRow
  pub owner : Opener
  pub last : ℕ
  pub named : IsNamed s l a.stateid row
  pub owner_is : opener_by l row.client (lock_owner row.holder) ≡ Some owner
  pub last_is : last_byte a.offset a.len ≡ Some last
  pub free : AreFree owner row.file a.offset last s done.4

-- ---- LOCKT

-- A LOCKT of this client on this file, up to this last byte, has each status exactly for its cause: it is OK exactly if no range
-- that is held stands against the lock, and DENIED exactly if one does; and then it tells the least of those that do.
pub record IsLockTestTold (l : NfsLists) (a : LockTestArgsItem) (c : ClientRow) (file last : ℕ) (done : Outcome) : Type 0 where
  pub told : (status : NfsStatus) → (status_of done.0 ≡ status) ↔ IsTestTold done.4 (test_ask (locker_of c a.owner.owner) file a.kind a.offset last) (test_claim done.4 (locker_of c a.owner.owner) file a.kind a.offset last) status
  pub denied : (held : HeldLock) → done.0 ≡ Denied held → IsTestDenial done.4 l (test_claim done.4 (locker_of c a.owner.owner) file a.kind a.offset last) held

-- ---- CLOSE

-- Of the open that was named neither its owner's share on the file is left, nor a byte of an owner of locks under it, nor a stateid of
-- these.
pub record IsClosed (s : CoreState) (l : NfsLists) (stateid : Stateid) (done : Outcome) : Type 0 where
  pub share : (r : StateidRow) (owner number : ℕ) (o : Opener) → IsNamed s l stateid r → r.holder ≡ holders.Open owner → opener_by l r.client owner ≡ Some o → number_of (NfsShare o.id o.owner) done.4.names ≡ Some number → shares_of r.file (owners.Name Nfs number) done.4.claims ≡ []
  pub bytes : (r q : StateidRow) (o : Opener) (byte : ℕ) → IsNamed s l stateid r → IsIn q (locks_under l r.number) → opener_by l r.client (lock_owner q.holder) ≡ Some o → byte ≤ all_ones → held_at done.4 (ByteOf r.file (owner_of s.names o) byte) ≡ []
  pub locks : (r : StateidRow) → IsNamed s l stateid r → locks_under done.3 r.number ≡ []

-- ---- DELEGRETURN

-- The stateid named a delegation of the current file, by its own seqid. That stateid isn't there any more, nor has its client a
-- delegation on the file, nor a cache.
pub record IsGivenBack (s : CoreState) (l : NfsLists) (stateid : Stateid) (done : Outcome) : Type 0 where
  pub row : StateidRow
  pub file : ℕ
  pub current : done.1 ≡ Some file
  pub returned : IsReturned s l file stateid row
  pub stateid_gone : find (is_stateid row.number) done.3.stateids ≡ None
  pub delegation_gone : find (delegated_on row.client row.file) done.3.stateids ≡ None
  pub cache_gone : (c : ClientRow) → find (is_client row.client true) l.clients ≡ Some c → cache_held done.4 c.id row.file ≡ None

-- ---- RENEW and RELEASE_LOCKOWNER

-- the clientid is of a confirmed client, whose lease runs for its whole length from now on
pub record IsRenewed (s : CoreState) (l : NfsLists) (clientid : ℕ) (done : Outcome) : Type 0 where
  pub client : ClientRow
  pub named : client_in s l clientid ≡ Some client
  pub lease : find (λ e. bytes_eq client.id e.0) done.4.leases ≡ Some (client.id, moment_after s.clock s.times.lease)

-- The clientid is of a confirmed client. Its lock owner holds no byte of any file, and is forgotten: the owner isn't there any
-- more, no stateid hangs on it, and no result is kept for it.
pub record IsReleased (s : CoreState) (l : NfsLists) (a : OwnerItem) (done : Outcome) : Type 0 where
  pub client : ClientRow
  pub named : client_in s l a.clientid ≡ Some client
  pub free : (number file byte : ℕ) → number_of (NfsRange client.id a.owner) done.4.names ≡ Some number → held_at done.4 (ByteOf file (owners.Name Nfs number) byte) ≡ []
  pub gone : (o : OwnerRow) → find (is_owner_named client.number kinds.Lock a.owner) l.owners ≡ Some o → IsForgotten o.number done.3
