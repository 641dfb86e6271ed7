-- How the operations on locks end: what they tell has a spelling, and one that isn't OK leaves the current handle.
use Rattle.std.proofs.Common.{◌≡◌, ℕ, Bool, true, false, List, Option, Some, None, Result, Ok, Err, refl, inl, inr, arith}
use Rattle.std.proofs.lemmas.Bool.{cases_Bool, true≢false}
use Rattle.std.specs.Bool.{◌==◌}
use Rattle.std.specs.List.{find}
use Rattle.xl_nfs.specs.Basics.{OwnerItem}
use Rattle.xl_nfs.specs.Locks.{LockArgsItem, LockTestArgsItem, NewLockerItem, LockerItem, New, Known}
use Rattle.xl_nfs.specs.Outcomes.{is_ok}
use Rattle.xl_nfs.specs.declared.locks.KnownLocker.{KnownLocker}
use Rattle.xl_nfs.specs.declared.locks.UnlockArgs.{UnlockArgs}
use Rattle.xl_nfs.specs.declared.status.NfsStatus.{NfsStatus}
use Rattle.xl_nfs.specs.declared.status.NfsStatus.TheVariants as statuses
use Rattle.xl_nfs_state.specs.State.{NfsLists, is_kept}
use Rattle.xl_nfs_state.specs.declared.client.ClientRow.{ClientRow}
use Rattle.xl_nfs_state.specs.declared.kept.KeptRow.{KeptRow}
use Rattle.xl_nfs_state.specs.declared.owner.OwnerKind.TheVariants as kinds
use Rattle.xl_nfs_state.specs.declared.owner.SeqidState.{SeqidState}
use Rattle.xl_nfs_state.specs.declared.stateid.StateidRow.{StateidRow}
use Rattle.xl_core.specs.State.{CoreState}
use Rattle.xl_core.specs.declared.ask.Answer.{Answer}
use Rattle.xl_core.specs.declared.ask.Answer.TheVariants as answers
use Rattle.xl_nfs_locks.specs.Checks.{locks_found}
use Rattle.xl_nfs_locks.specs.FirstLocks.{join_again, join_answered, join_as, join_of, join_standing, join_to, joined_by, both_of, found_joined, locker_under, lock_named, lock_new, lock_by, lock}
use Rattle.xl_nfs_locks.specs.Locks.{access_above, lock_answered, lock_by_owner, lock_end, lock_known, lock_standing, lock_to}
use Rattle.xl_nfs_locks.specs.Ranges.{last_byte}
use Rattle.xl_nfs_locks.specs.Releases.{holds_any, release_of, release}
use Rattle.xl_nfs_locks.specs.Tests.{locker_of, tested_told, test_at, test_of, test_to, lock_test}
use Rattle.xl_nfs_locks.specs.Unlocks.{unlock_status, unlocked_as, unlock_by_owner, unlock_to, unlock_standing, unlock}
use Rattle.xl_nfs_locks.specs.declared.joining.BothOwners.{BothOwners}
use Rattle.xl_nfs_locks.specs.declared.joining.Joined.{Joined}
use Rattle.xl_nfs_locks.specs.declared.joining.Joined.TheVariants.{Bad, Again, Joins}
use Rattle.xl_nfs_opens.specs.Closing.{checked, standing_fault, opener_by}
use Rattle.xl_nfs_opens.specs.Opens.{client_in, is_granted}
use Rattle.xl_nfs_opens.specs.Results.{ToldFits}
use Rattle.xl_nfs_opens.specs.Seqids.{is_room_for}
use Rattle.xl_nfs_opens.specs.declared.opener.Opener.{Opener}
use Rattle.xl_nfs_opens.proofs.EndLaws.{Ends, fault, ended, counts_ends, IfFault, OrFault, checked_fault, standing_is_fault, status_fault}
use Rattle.xl_nfs_opens.proofs.ResultLaws.{IsFault, plain_39}
use Rattle.xl_nfs_locks.proofs.LockLaws.{told_by, end_fault}

-- ---- LOCK by a known owner

lock_answered_ends : (l : NfsLists) (current : Option ℕ) (r : StateidRow) (owner : ℕ) (seqids : SeqidState) (seqid : ℕ) (reclaim : Bool) (answer : Answer) (s : CoreState) → Ends 12 current (lock_answered l current r owner seqids seqid reclaim answer s)
lock_answered_ends l current r owner seqids seqid reclaim answer s =
    elim (cases_Bool (is_granted answer)) [
      | inl e ↦ rw e (tt, λ _. refl)
      | inr e ↦ rw e (told_by 12 (omega arith) s l reclaim answer e, λ _. refl)
    ]

lock_owner_ends : (l : NfsLists) (current : Option ℕ) (a : LockArgsItem) (r : StateidRow) (owner : ℕ) (seqids : SeqidState) (seqid last : ℕ) (o : Option Opener) → Ends 12 current (lock_by_owner l current a r owner seqids seqid last o)
lock_owner_ends l current a r owner seqids seqid last None = ended 12 (omega arith) current statuses.ServerFault (fault statuses.ServerFault refl refl)
lock_owner_ends l current a r owner seqids seqid last (Some o) = λ answer t. lock_answered_ends l current r owner seqids seqid a.reclaim answer t

lock_to_ends : (l : NfsLists) (current : Option ℕ) (a : LockArgsItem) (r : StateidRow) (owner : ℕ) (seqids : SeqidState) (seqid : ℕ) (o : Result ℕ NfsStatus) → OrFault o → Ends 12 current (lock_to l current a r owner seqids seqid o)
lock_to_ends l current a r owner seqids seqid (Err status) f = ended 12 (omega arith) current status f
lock_to_ends l current a r owner seqids seqid (Ok last) f = lock_owner_ends l current a r owner seqids seqid last (opener_by l r.client owner)

lock_standing_ends : (l : NfsLists) (current : Option ℕ) (a : LockArgsItem) (r : StateidRow) (owner : ℕ) (seqids : SeqidState) (seqid : ℕ) (o : Option NfsStatus) → IfFault o → Ends 12 current (lock_standing l current a r owner seqids seqid o)
lock_standing_ends l current a r owner seqids seqid (Some status) f = ended 12 (omega arith) current status f
lock_standing_ends l current a r owner seqids seqid None f = lock_to_ends l current a r owner seqids seqid (lock_end a.kind (access_above l r.holder) (last_byte a.offset a.len)) (end_fault a.kind (access_above l r.holder) (last_byte a.offset a.len))

known_ends : (s : CoreState) (l : NfsLists) (current : Option ℕ) (a : LockArgsItem) (x : KnownLocker) → Ends 12 current (lock_known s l current a x)
unfolding lock_known
known_ends s l current a x = λ t.
    counts_ends 12 (omega arith) t l current (λ r w seqids. lock_standing l current a r w seqids x.seqid (standing_fault r seqids x.stateid.seqid true)) (locks_found t l current 12 x.seqid x.stateid) (checked_fault kinds.Lock t l current 12 x.seqid x.stateid)
    (λ r w seqids. lock_standing_ends l current a r w seqids x.seqid (standing_fault r seqids x.stateid.seqid true) (standing_is_fault r seqids x.stateid.seqid true))

-- ---- LOCK under an open

joined_ends : (s : CoreState) (l : NfsLists) (current : Option ℕ) (b : BothOwners) (o : Opener) (r : StateidRow) (q : Option StateidRow) → Ends 12 current (joined_by s l current b o r q)
joined_ends s l current b o r None = (tt, λ _. refl)
joined_ends s l current b o r (Some q) = (tt, λ _. refl)

join_answered_ends : (l : NfsLists) (current : Option ℕ) (b : BothOwners) (o : Opener) (r : StateidRow) (q : Option StateidRow) (reclaim : Bool) (answer : Answer) (s : CoreState) → Ends 12 current (join_answered l current b o r q reclaim answer s)
join_answered_ends l current b o r q reclaim answer s =
    elim (cases_Bool (is_granted answer)) [
      | inl e ↦ rw e (joined_ends s l current b o r q)
      | inr e ↦ rw e (told_by 12 (omega arith) s l reclaim answer e, λ _. refl)
    ]

join_to_ends : (l : NfsLists) (current : Option ℕ) (a : LockArgsItem) (b : BothOwners) (o : Opener) (r : StateidRow) (q : Option StateidRow) (e : Result ℕ NfsStatus) → OrFault e → Ends 12 current (join_to l current a b o r q e)
join_to_ends l current a b o r q (Err status) f = ended 12 (omega arith) current status f
join_to_ends l current a b o r q (Ok last) f =
    elim (cases_Bool (is_room_for o l)) [
      | inl e ↦ rw e (λ answer t. join_answered_ends l current b o r q a.reclaim answer t)
      | inr e ↦ rw e (ended 12 (omega arith) current statuses.Resource (fault statuses.Resource refl refl))
    ]

again_ends : (l : NfsLists) (current : Option ℕ) (b : BothOwners) (k : Option KeptRow) → Ends 12 current (join_again l current b k)
again_ends l current b None = ended 12 (omega arith) current statuses.BadSeqid (fault statuses.BadSeqid refl refl)
again_ends l current b (Some k) = (tt, λ _. refl)

join_as_ends : (l : NfsLists) (current : Option ℕ) (a : LockArgsItem) (b : BothOwners) (o : Opener) (r : StateidRow) (j : Joined) → Ends 12 current (join_as l current a b o r j)
join_as_ends l current a b o r Bad = ended 12 (omega arith) current statuses.BadSeqid (fault statuses.BadSeqid refl refl)
join_as_ends l current a b o r (Again owner) = again_ends l current b (find (is_kept owner) l.kept)
join_as_ends l current a b o r (Joins q) = join_to_ends l current a b o r q (lock_end a.kind r.standing.access (last_byte a.offset a.len)) (end_fault a.kind r.standing.access (last_byte a.offset a.len))

join_of_ends : (l : NfsLists) (current : Option ℕ) (a : LockArgsItem) (x : NewLockerItem) (b : BothOwners) (r : StateidRow) (o : Option Opener) → Ends 12 current (join_of l current a x b r o)
join_of_ends l current a x b r None = ended 12 (omega arith) current statuses.Inval (fault statuses.Inval refl refl)
join_of_ends l current a x b r (Some o) = join_as_ends l current a b o r (found_joined l r o x.lock_seqid)

join_standing_ends : (s : CoreState) (l : NfsLists) (current : Option ℕ) (a : LockArgsItem) (x : NewLockerItem) (b : BothOwners) (r : StateidRow) (o : Option NfsStatus) → IfFault o → Ends 12 current (join_standing s l current a x b r o)
join_standing_ends s l current a x b r (Some status) f = ended 12 (omega arith) current status f
join_standing_ends s l current a x b r None f = join_of_ends l current a x b r (locker_under r x.owner.owner (client_in s l x.owner.clientid))

new_ends : (s : CoreState) (l : NfsLists) (current : Option ℕ) (a : LockArgsItem) (x : NewLockerItem) → Ends 12 current (lock_new s l current a x)
unfolding lock_new lock_named
new_ends s l current a x = λ t u.
    counts_ends 12 (omega arith) u l current (λ r w seqids. join_standing u l current a x (both_of x w seqids) r (standing_fault r seqids x.open_stateid.seqid true)) (checked u l current 12 x.open_seqid x.open_stateid) (checked_fault kinds.Open u l current 12 x.open_seqid x.open_stateid)
    (λ r w seqids. join_standing_ends u l current a x (both_of x w seqids) r (standing_fault r seqids x.open_stateid.seqid true) (standing_is_fault r seqids x.open_stateid.seqid true))

by_ends : (s : CoreState) (l : NfsLists) (current : Option ℕ) (a : LockArgsItem) (x : LockerItem) → Ends 12 current (lock_by s l current a x)
by_ends s l current a (New x) = new_ends s l current a x
by_ends s l current a (Known x) = known_ends s l current a x

pub lock_ends : (s : CoreState) (l : NfsLists) (current : Option ℕ) (a : LockArgsItem) → Ends 12 current (lock s l current a)
unfolding lock
lock_ends s l current a = by_ends s l current a a.locker

-- ---- LOCKT

tested_fits : (s : CoreState) (l : NfsLists) (answer : Answer) → ToldFits 13 (tested_told s l answer)
tested_fits s l answer =
    elim (cases_Bool (is_granted answer)) [
      | inl e ↦ rw e tt
      | inr e ↦ rw e (told_by 13 (omega arith) s l false answer e)
    ]

test_to_ends : (l : NfsLists) (current : Option ℕ) (a : LockTestArgsItem) (file : ℕ) (o : Opener) (last : Option ℕ) → Ends 13 current (test_to l current a file o last)
test_to_ends l current a file o None = ended 13 (omega arith) current statuses.Inval (fault statuses.Inval refl refl)
test_to_ends l current a file o (Some last) = λ answer t. (tested_fits t l answer, λ _. refl)

test_of_ends : (l : NfsLists) (current : Option ℕ) (a : LockTestArgsItem) (file : ℕ) (c : Option ClientRow) → Ends 13 current (test_of l current a file c)
test_of_ends l current a file None = ended 13 (omega arith) current statuses.StaleClientId (fault statuses.StaleClientId refl refl)
test_of_ends l current a file (Some c) = test_to_ends l current a file (locker_of c a.owner.owner) (last_byte a.offset a.len)

test_at_ends : (s : CoreState) (l : NfsLists) (a : LockTestArgsItem) (current : Option ℕ) → Ends 13 current (test_at s l a current)
test_at_ends s l a None = ended 13 (omega arith) None statuses.NoFileHandle (fault statuses.NoFileHandle refl refl)
test_at_ends s l a (Some at) =
    elim (cases_Bool (at == 0)) [
      | inl e ↦ rw e (ended 13 (omega arith) (Some at) statuses.IsDir (fault statuses.IsDir refl refl))
      | inr e ↦ rw e (test_of_ends l (Some at) a at (client_in s l a.owner.clientid))
    ]

pub test_ends : (s : CoreState) (l : NfsLists) (current : Option ℕ) (a : LockTestArgsItem) → Ends 13 current (lock_test s l current a)
unfolding lock_test
test_ends s l current a = λ t. test_at_ends t l a current

-- ---- LOCKU

unlock_fault : (answer : Answer) → is_ok (unlock_status answer) ≡ false → IsFault (unlock_status answer)
unlock_fault (answers.Granted c) e = absurd (true≢false e)
unlock_fault answers.NotHeld e = absurd (true≢false e)
unlock_fault answer e = status_fault false answer refl

unlocked_ends : (s : CoreState) (l : NfsLists) (current : Option ℕ) (a : UnlockArgs) (r : StateidRow) (owner : ℕ) (seqids : SeqidState) (answer : Answer) → Ends 14 current (unlocked_as s l current a r owner seqids (unlock_status answer))
unlocked_ends s l current a r owner seqids answer =
    elim (cases_Bool (is_ok (unlock_status answer))) [
      | inl e ↦ rw e (tt, λ _. refl)
      | inr e ↦ rw e (ended 14 (omega arith) current (unlock_status answer) (unlock_fault answer e))
    ]

unlock_owner_ends : (l : NfsLists) (current : Option ℕ) (a : UnlockArgs) (r : StateidRow) (owner : ℕ) (seqids : SeqidState) (last : ℕ) (o : Option Opener) → Ends 14 current (unlock_by_owner l current a r owner seqids last o)
unlock_owner_ends l current a r owner seqids last None = ended 14 (omega arith) current statuses.ServerFault (fault statuses.ServerFault refl refl)
unlock_owner_ends l current a r owner seqids last (Some o) = λ answer t. unlocked_ends t l current a r owner seqids answer

unlock_to_ends : (l : NfsLists) (current : Option ℕ) (a : UnlockArgs) (r : StateidRow) (owner : ℕ) (seqids : SeqidState) (last : Option ℕ) → Ends 14 current (unlock_to l current a r owner seqids last)
unlock_to_ends l current a r owner seqids None = ended 14 (omega arith) current statuses.Inval (fault statuses.Inval refl refl)
unlock_to_ends l current a r owner seqids (Some last) = unlock_owner_ends l current a r owner seqids last (opener_by l r.client owner)

unlock_standing_ends : (l : NfsLists) (current : Option ℕ) (a : UnlockArgs) (r : StateidRow) (owner : ℕ) (seqids : SeqidState) (o : Option NfsStatus) → IfFault o → Ends 14 current (unlock_standing l current a r owner seqids o)
unlock_standing_ends l current a r owner seqids (Some status) f = ended 14 (omega arith) current status f
unlock_standing_ends l current a r owner seqids None f = unlock_to_ends l current a r owner seqids (last_byte a.offset a.len)

pub unlock_ends : (s : CoreState) (l : NfsLists) (current : Option ℕ) (a : UnlockArgs) → Ends 14 current (unlock s l current a)
unfolding unlock
unlock_ends s l current a = λ t.
    counts_ends 14 (omega arith) t l current (λ r w seqids. unlock_standing l current a r w seqids (standing_fault r seqids a.stateid.seqid true)) (locks_found t l current 14 a.seqid a.stateid) (checked_fault kinds.Lock t l current 14 a.seqid a.stateid)
    (λ r w seqids. unlock_standing_ends l current a r w seqids (standing_fault r seqids a.stateid.seqid true) (standing_is_fault r seqids a.stateid.seqid true))

-- ---- RELEASE_LOCKOWNER

release_of_ends : (s : CoreState) (l : NfsLists) (current : Option ℕ) (owner : List ℕ) (c : Option ClientRow) → Ends 39 current (release_of s l current owner c)
release_of_ends s l current owner None = ended 39 (omega arith) current statuses.StaleClientId (fault statuses.StaleClientId refl refl)
release_of_ends s l current owner (Some c) =
    elim (cases_Bool (holds_any s c.id owner)) [
      | inl e ↦ rw e (ended 39 (omega arith) current statuses.LocksHeld (fault statuses.LocksHeld refl refl))
      | inr e ↦ rw e (plain_39 statuses.Ok, λ _. refl)
    ]

pub release_ends : (s : CoreState) (l : NfsLists) (current : Option ℕ) (a : OwnerItem) → Ends 39 current (release s l current a)
unfolding release
release_ends s l current a = λ t. release_of_ends t l current a.owner (client_in t l a.clientid)
