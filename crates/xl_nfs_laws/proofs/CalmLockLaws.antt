-- Operations on locks leave each client the delegations that it had, by the core and by the lists.
use Rattle.std.proofs.Common.{Bool, Err, List, None, Ok, Option, Result, Some, [], arith, false, inl, inr, refl, subst, sym, true, ℕ, ◌+◌, ◌++◌, ◌<◌, ◌∷◌, ◌≡◌}
use Rattle.std.proofs.lemmas.Bool.{cases_Bool}
use Rattle.std.specs.Bool.{◌==◌}
use Rattle.std.specs.List.{find}
use Rattle.xl_nfs.specs.Basics.{OwnerItem}
use Rattle.xl_nfs.specs.Locks.{Known, LockArgsItem, LockTestArgsItem, LockerItem, New, NewLockerItem}
use Rattle.xl_nfs.specs.Outcomes.{is_ok}
use Rattle.xl_nfs.specs.declared.locks.KnownLocker.{KnownLocker}
use Rattle.xl_nfs.specs.declared.locks.UnlockArgs.{UnlockArgs}
use Rattle.xl_nfs.specs.declared.status.NfsStatus.{NfsStatus}
use Rattle.xl_nfs.specs.declared.status.NfsStatus.TheVariants as statuses
use Rattle.xl_nfs_state.specs.State.{NfsLists, is_kept, is_owner, is_owner_named, with_stateids}
use Rattle.xl_nfs_state.specs.declared.client.ClientRow.{ClientRow}
use Rattle.xl_nfs_state.specs.declared.kept.KeptRow.{KeptRow}
use Rattle.xl_nfs_state.specs.declared.owner.OwnerKind.TheVariants as kinds
use Rattle.xl_nfs_state.specs.declared.owner.OwnerRow.{OwnerRow}
use Rattle.xl_nfs_state.specs.declared.owner.SeqidState.{SeqidState}
use Rattle.xl_nfs_state.specs.declared.stateid.StateidRow.{StateidRow}
use Rattle.xl_core.specs.State.{CoreState, drawn}
use Rattle.xl_core.specs.declared.ask.Answer.{Answer}
use Rattle.xl_nfs_laws.proofs.PassedCheckLaws.{IsPassed}
use Rattle.xl_nfs_opens.specs.Closing.{checked, done_lists, failed_lists, next_seqids, opener_by, standing_fault, state_told}
use Rattle.xl_core.specs.Ids.{number_in}
use Rattle.xl_nfs_opens.specs.Opens.{client_in, freed, is_granted, stood}
use Rattle.xl_nfs_opens.specs.Plans.{carried, status_of}
use Rattle.xl_nfs_opens.specs.Renewing.{state_client, stateid_of}
use Rattle.xl_nfs_opens.specs.Results.{spelled}
use Rattle.xl_nfs_opens.specs.Seqids.{advances, is_room_for, opener_number}
use Rattle.xl_nfs_opens.specs.declared.opener.Opener.{Opener}
use Rattle.xl_nfs_opens.specs.declared.told.Told.{Told}
use Rattle.xl_nfs_opens.specs.declared.told.Told.TheVariants.{Ended, State}
use Rattle.xl_nfs_locks.specs.Checks.{locks_found}
use Rattle.xl_nfs_locks.specs.Denials.{lock_told}
use Rattle.xl_nfs_locks.specs.FirstLocks as first
use Rattle.xl_nfs_locks.specs.Locks.{access_above, lock_answered, lock_by_owner, lock_end, lock_found, lock_known, lock_standing, lock_to, refused_lists}
use Rattle.xl_nfs_locks.specs.Ranges.{last_byte}
use Rattle.xl_nfs_locks.specs.Releases.{holds_any, release, release_of, released, without_found}
use Rattle.xl_nfs_locks.specs.Tests.{lock_test, locker_of, test_at, test_of, test_to}
use Rattle.xl_nfs_locks.specs.Unlocks.{unlock, unlock_by_owner, unlock_found, unlock_standing, unlock_status, unlock_to, unlocked_as}
use Rattle.xl_nfs_locks.specs.declared.joining.BothOwners.{BothOwners}
use Rattle.xl_nfs_locks.specs.declared.joining.Joined.{Joined}
use Rattle.xl_core.specs.Good.{IsGood}
use Rattle.xl_nfs_locks.specs.declared.joining.Joined.TheVariants.{Again, Bad, Joins}
use Rattle.xl_nfs_laws.proofs.LockOwn.{lock_own, release_own, test_own, unlock_own}
use Rattle.xl_nfs_laws.proofs.StillDelegatedLaws.{AreStill, comes_still, counted_still, failed_still, freed_still, later_set, none_shut, owner_shut, owner_still, remembered_still, still_self, still_then, stood_still}
use Rattle.xl_nfs_laws.specs.Delegated.{AreSet, AreTied, IsShut, written_by}
use Rattle.xl_nfs_laws.proofs.CalmOpenLaws.{counts_calm, IsCalm, carried_tied, does_still, done_still, passed_shut, renewing_calm}

-- ---- lists

seqids_shut : (last : ℕ) (l : NfsLists) (owner : ℕ) (o : OwnerRow) (seqids : SeqidState) → find (is_owner owner) l.owners ≡ Some o → seqids ≡ o.seqids → AreSet last l → IsShut last l.stateids seqids.closed
seqids_shut last l owner o seqids found same set = subst (λ (t : SeqidState). IsShut last l.stateids t.closed) (sym same) (owner_shut last l (is_owner owner) o found set)

-- nothing is done
nothing_calm : (last : ℕ) (l : NfsLists) → AreSet last l → Unit {0} × AreStill (last + 0) l l
nothing_calm last l set = (tt, does_still last [] l l (still_self last l set))

only_lists : (last : ℕ) (l m : NfsLists) → AreStill last l m → Unit {0} × AreStill (last + 0) l m
only_lists last l m still = (tt, does_still last [] l m still)

-- ---- LOCK by an owner that has locks there

refused_still : (last : ℕ) (l : NfsLists) (r : StateidRow) (owner : ℕ) (seqids : SeqidState) (seqid : ℕ) (told : Told) → IsPassed l r owner seqids → AreSet last l → AreStill last l (refused_lists l owner seqids seqid told)
refused_still last l r owner seqids seqid told passed set =
    elim (cases_Bool (advances (status_of told))) [
      | inl e ↦ rw e (counted_still last owner seqids.closed (next_seqids 12 seqid seqids.confirmed None) (spelled 12 told) l (passed_shut last l r owner seqids passed set) (none_shut last l.stateids None refl) set)
      | inr e ↦ rw e (still_self last l set)
    ]

locked_still : (last : ℕ) (s : CoreState) (l : NfsLists) (r : StateidRow) (owner : ℕ) (seqids : SeqidState) (op seqid : ℕ) → IsPassed l r owner seqids → AreSet last l → AreStill last l (done_lists s l r owner seqids op seqid seqids.confirmed None 0 0 false)
locked_still last s l r owner seqids op seqid passed set = done_still last s l r owner seqids op seqid seqids.confirmed None 0 0 false passed (none_shut last _ None refl) set

failed_so : (last : ℕ) (l : NfsLists) (r : StateidRow) (owner : ℕ) (seqids : SeqidState) (op seqid : ℕ) (status : NfsStatus) → IsPassed l r owner seqids → AreSet last l → AreStill last l (failed_lists l owner seqids op seqid status)
failed_so last l r owner seqids op seqid status passed set = failed_still last l owner seqids op seqid status (passed_shut last l r owner seqids passed set) set

answered_calm : (last : ℕ) (l : NfsLists) (current : Option ℕ) (r : StateidRow) (owner : ℕ) (seqids : SeqidState) (seqid : ℕ) (reclaim : Bool) (answer : Answer) (s : CoreState) → IsPassed l r owner seqids → AreSet last l → IsCalm last l (lock_answered l current r owner seqids seqid reclaim answer s)
answered_calm last l current r owner seqids seqid reclaim answer s passed set =
    elim (cases_Bool (is_granted answer)) [
      | inl e ↦ rw e (only_lists last l (done_lists s l r owner seqids 12 seqid seqids.confirmed None 0 0 false) (locked_still last s l r owner seqids 12 seqid passed set))
      | inr e ↦ rw e (only_lists last l (refused_lists l owner seqids seqid (lock_told s l reclaim answer)) (refused_still last l r owner seqids seqid (lock_told s l reclaim answer) passed set))
    ]

by_owner_calm : (last : ℕ) (l : NfsLists) (current : Option ℕ) (a : LockArgsItem) (r : StateidRow) (owner : ℕ) (seqids : SeqidState) (seqid end : ℕ) (o : Option Opener) → IsPassed l r owner seqids → AreSet last l → IsCalm last l (lock_by_owner l current a r owner seqids seqid end o)
by_owner_calm last l current a r owner seqids seqid end None passed set = nothing_calm last l set
by_owner_calm last l current a r owner seqids seqid end (Some o) passed set = (refl, λ answer t le. answered_calm t.counter l current r owner seqids seqid a.reclaim answer t passed (later_set last t.counter l le set))

to_calm : (last : ℕ) (l : NfsLists) (current : Option ℕ) (a : LockArgsItem) (r : StateidRow) (owner : ℕ) (seqids : SeqidState) (seqid : ℕ) (x : Result ℕ NfsStatus) → IsPassed l r owner seqids → AreSet last l → IsCalm last l (lock_to l current a r owner seqids seqid x)
to_calm last l current a r owner seqids seqid (Err status) passed set = only_lists last l (failed_lists l owner seqids 12 seqid status) (failed_so last l r owner seqids 12 seqid status passed set)
to_calm last l current a r owner seqids seqid (Ok end) passed set = by_owner_calm last l current a r owner seqids seqid end (opener_by l r.client owner) passed set

standing_calm : (last : ℕ) (l : NfsLists) (current : Option ℕ) (a : LockArgsItem) (r : StateidRow) (owner : ℕ) (seqids : SeqidState) (seqid : ℕ) (x : Option NfsStatus) → IsPassed l r owner seqids → AreSet last l → IsCalm last l (lock_standing l current a r owner seqids seqid x)
standing_calm last l current a r owner seqids seqid (Some status) passed set = only_lists last l (failed_lists l owner seqids 12 seqid status) (failed_so last l r owner seqids 12 seqid status passed set)
standing_calm last l current a r owner seqids seqid None passed set = to_calm last l current a r owner seqids seqid (lock_end a.kind (access_above l r.holder) (last_byte a.offset a.len)) passed set

known_calm : (last : ℕ) (s : CoreState) (l : NfsLists) (current : Option ℕ) (a : LockArgsItem) (x : KnownLocker) → AreSet last l → IsCalm last l (lock_known s l current a x)
unfolding lock_known
known_calm last s l current a x set =
    renewing_calm last l (state_client s l x.stateid) (λ t. lock_found t l current a x (locks_found t l current 12 x.seqid x.stateid)) set
    (λ t le after. counts_calm t.counter t l current kinds.Lock 12 x.seqid x.stateid (λ r w v. lock_standing l current a r w v x.seqid (standing_fault r v x.stateid.seqid true)) after (λ r w v passed. standing_calm t.counter l current a r w v x.seqid (standing_fault r v x.stateid.seqid true) passed after))

-- ---- LOCK by an owner under an open

open_still : (last : ℕ) (b : BothOwners) (w : OwnerRow) (bytes : List ℕ) (l : NfsLists) → find (is_owner b.number) l.owners ≡ Some w → b.seqids ≡ w.seqids → AreSet last l → AreStill last l (first.counted_open b bytes l)
open_still last b w bytes l found same set = counted_still last b.number b.seqids.closed (next_seqids 12 b.open_seqid b.seqids.confirmed None) bytes l (seqids_shut last l b.number w b.seqids found same set) (none_shut last l.stateids None refl) set

both_still : (last : ℕ) (b : BothOwners) (w : OwnerRow) (o : Opener) (bytes : List ℕ) (l : NfsLists) → find (is_owner b.number) l.owners ≡ Some w → b.seqids ≡ w.seqids → AreSet last l → AreStill last l (first.counted_both b o bytes l)
both_still last b w o bytes l found same set =
    let one = open_still last b w bytes l found same set in
    still_then last last l (first.counted_open b bytes l) (first.counted_both b o bytes l) one (remembered_still last o (next_seqids 12 b.lock_seqid true None) bytes (first.counted_open b bytes l) refl one.set)

both_refused_calm : (last : ℕ) (l : NfsLists) (current : Option ℕ) (b : BothOwners) (w : OwnerRow) (o : Opener) (told : Told) → find (is_owner b.number) l.owners ≡ Some w → b.seqids ≡ w.seqids → AreSet last l → IsCalm last l (first.both_refused l current b o told)
both_refused_calm last l current b w o told found same set =
    elim (cases_Bool (advances (status_of told))) [
      | inl e ↦ rw e (only_lists last l (first.counted_both b o (spelled 12 told) l) (both_still last b w o (spelled 12 told) l found same set))
      | inr e ↦ rw e (nothing_calm last l set)
    ]

entered_still : (last : ℕ) (r : StateidRow) (l : NfsLists) → last < r.number → written_by r.holder ≡ None → AreSet last l → AreStill r.number l (first.entered r l)
unfolding first.entered
entered_still last r l above none set =
    let m : NfsLists = freed r.number l in
    let free = freed_still last r.number l above set in
    let up : AreSet r.number m = later_set last r.number m (omega (arith, above)) free.set in
    elim (cases_Bool (first.can_enter r m)) [
      | inl e ↦ rw e (still_then last r.number l m (with_stateids m (m.stateids ++ r ∷ [])) free (comes_still last r m above none free.set))
      | inr e ↦ rw e (still_then last r.number l m m free (still_self r.number m up))
    ]

joined_calm : (s : CoreState) (l : NfsLists) (current : Option ℕ) (b : BothOwners) (w : OwnerRow) (o : Opener) (r : StateidRow) (q : Option StateidRow) → find (is_owner b.number) l.owners ≡ Some w → b.seqids ≡ w.seqids → AreSet s.counter l → IsCalm s.counter l (first.joined_by s l current b o r q)
joined_calm s l current b w o r None found same set =
    let bytes : List ℕ = spelled 12 (State (stateid_of (drawn s) (s.counter + 1) 1)) in
    let m : NfsLists = first.counted_both b o bytes l in
    let one = both_still s.counter b w o bytes l found same set in
    let row = first.lock_row (s.counter + 1) r b.number (opener_number o m) in
    ((tt, tt), still_then s.counter (s.counter + 1) l m (first.entered row m) one (entered_still s.counter row m (omega arith) refl one.set))
joined_calm s l current b w o r (Some q) found same set =
    let after : NfsLists = stood q.number q 0 0 false l in
    let one = stood_still s.counter q.number q 0 0 false l set in
    only_lists s.counter l (first.counted_both b o (spelled 12 (state_told s q)) after) (still_then s.counter s.counter l after _ one (both_still s.counter b w o (spelled 12 (state_told s q)) after found same one.set))

join_answered_calm : (l : NfsLists) (current : Option ℕ) (b : BothOwners) (w : OwnerRow) (o : Opener) (r : StateidRow) (q : Option StateidRow) (reclaim : Bool) (answer : Answer) (s : CoreState) → find (is_owner b.number) l.owners ≡ Some w → b.seqids ≡ w.seqids → AreSet s.counter l → IsCalm s.counter l (first.join_answered l current b o r q reclaim answer s)
join_answered_calm l current b w o r q reclaim answer s found same set =
    elim (cases_Bool (is_granted answer)) [
      | inl e ↦ rw e (joined_calm s l current b w o r q found same set)
      | inr e ↦ rw e (both_refused_calm s.counter l current b w o (lock_told s l reclaim answer) found same set)
    ]

join_to_calm : (last : ℕ) (l : NfsLists) (current : Option ℕ) (a : LockArgsItem) (b : BothOwners) (w : OwnerRow) (o : Opener) (r : StateidRow) (q : Option StateidRow) (x : Result ℕ NfsStatus) → find (is_owner b.number) l.owners ≡ Some w → b.seqids ≡ w.seqids → AreSet last l → IsCalm last l (first.join_to l current a b o r q x)
join_to_calm last l current a b w o r q (Err status) found same set = both_refused_calm last l current b w o (Ended status) found same set
join_to_calm last l current a b w o r q (Ok end) found same set =
    elim (cases_Bool (is_room_for o l)) [
      | inl e ↦ rw e (refl, λ answer t le. join_answered_calm l current b w o r q a.reclaim answer t found same (later_set last t.counter l le set))
      | inr e ↦ rw e (nothing_calm last l set)
    ]

again_calm : (last : ℕ) (l : NfsLists) (current : Option ℕ) (b : BothOwners) (w : OwnerRow) (k : Option KeptRow) → find (is_owner b.number) l.owners ≡ Some w → b.seqids ≡ w.seqids → AreSet last l → IsCalm last l (first.join_again l current b k)
again_calm last l current b w None found same set = nothing_calm last l set
again_calm last l current b w (Some k) found same set = only_lists last l (first.counted_open b k.result l) (open_still last b w k.result l found same set)

join_as_calm : (last : ℕ) (l : NfsLists) (current : Option ℕ) (a : LockArgsItem) (b : BothOwners) (w : OwnerRow) (o : Opener) (r : StateidRow) (j : Joined) → find (is_owner b.number) l.owners ≡ Some w → b.seqids ≡ w.seqids → AreSet last l → IsCalm last l (first.join_as l current a b o r j)
join_as_calm last l current a b w o r Bad found same set = nothing_calm last l set
join_as_calm last l current a b w o r (Again owner) found same set = again_calm last l current b w (find (is_kept owner) l.kept) found same set
join_as_calm last l current a b w o r (Joins q) found same set = join_to_calm last l current a b w o r q (lock_end a.kind r.standing.access (last_byte a.offset a.len)) found same set

failed_open : (last : ℕ) (l : NfsLists) (b : BothOwners) (w : OwnerRow) (status : NfsStatus) → find (is_owner b.number) l.owners ≡ Some w → b.seqids ≡ w.seqids → AreSet last l → AreStill last l (failed_lists l b.number b.seqids 12 b.open_seqid status)
failed_open last l b w status found same set = failed_still last l b.number b.seqids 12 b.open_seqid status (seqids_shut last l b.number w b.seqids found same set) set

join_of_calm : (last : ℕ) (l : NfsLists) (current : Option ℕ) (a : LockArgsItem) (x : NewLockerItem) (b : BothOwners) (w : OwnerRow) (r : StateidRow) (o : Option Opener) → find (is_owner b.number) l.owners ≡ Some w → b.seqids ≡ w.seqids → AreSet last l → IsCalm last l (first.join_of l current a x b r o)
join_of_calm last l current a x b w r None found same set = only_lists last l (failed_lists l b.number b.seqids 12 b.open_seqid statuses.Inval) (failed_open last l b w statuses.Inval found same set)
join_of_calm last l current a x b w r (Some o) found same set = join_as_calm last l current a b w o r (first.found_joined l r o x.lock_seqid) found same set

join_standing_calm : (last : ℕ) (s : CoreState) (l : NfsLists) (current : Option ℕ) (a : LockArgsItem) (x : NewLockerItem) (b : BothOwners) (w : OwnerRow) (r : StateidRow) (status : Option NfsStatus) → find (is_owner b.number) l.owners ≡ Some w → b.seqids ≡ w.seqids → AreSet last l → IsCalm last l (first.join_standing s l current a x b r status)
join_standing_calm last s l current a x b w r (Some status) found same set = only_lists last l (failed_lists l b.number b.seqids 12 b.open_seqid status) (failed_open last l b w status found same set)
join_standing_calm last s l current a x b w r None found same set = join_of_calm last l current a x b w r (first.locker_under r x.owner.owner (client_in s l x.owner.clientid)) found same set

named_calm : (last : ℕ) (s : CoreState) (l : NfsLists) (current : Option ℕ) (a : LockArgsItem) (x : NewLockerItem) → AreSet last l → IsCalm last l (first.lock_named s l current a x)
unfolding first.lock_named
named_calm last s l current a x set =
    renewing_calm last l (number_in s x.owner.clientid) (λ t. first.join_checked t l current a x (checked t l current 12 x.open_seqid x.open_stateid)) set
    (λ t le after. counts_calm t.counter t l current kinds.Open 12 x.open_seqid x.open_stateid (λ r w v. first.join_standing t l current a x (first.both_of x w v) r (standing_fault r v x.open_stateid.seqid true)) after
    (λ r w v passed. join_standing_calm t.counter t l current a x (first.both_of x w v) passed.row r (standing_fault r v x.open_stateid.seqid true) passed.owned passed.seqids_is after))

first_calm : (last : ℕ) (s : CoreState) (l : NfsLists) (current : Option ℕ) (a : LockArgsItem) (x : NewLockerItem) → AreSet last l → IsCalm last l (first.lock_new s l current a x)
unfolding first.lock_new
first_calm last s l current a x set =
    renewing_calm last l (state_client s l x.open_stateid) (λ t. first.lock_named t l current a x) set (λ t le after. named_calm t.counter t l current a x after)

lock_calm : (last : ℕ) (s : CoreState) (l : NfsLists) (current : Option ℕ) (a : LockArgsItem) → AreSet last l → IsCalm last l (first.lock s l current a)
unfolding first.lock
lock_calm last s l current a set = by a.locker
  where
    by : (x : LockerItem) → IsCalm last l (first.lock_by s l current a x)
    by (New x) = first_calm last s l current a x set
    by (Known x) = known_calm last s l current a x set

-- ---- LOCKT, LOCKU, RELEASE_LOCKOWNER

tested_calm : (last : ℕ) (l : NfsLists) (current : Option ℕ) (a : LockTestArgsItem) (file : ℕ) (o : Opener) (end : Option ℕ) → AreSet last l → IsCalm last l (test_to l current a file o end)
tested_calm last l current a file o None set = nothing_calm last l set
tested_calm last l current a file o (Some end) set = (refl, λ answer t le. nothing_calm t.counter l (later_set last t.counter l le set))

test_of_calm : (last : ℕ) (l : NfsLists) (current : Option ℕ) (a : LockTestArgsItem) (file : ℕ) (c : Option ClientRow) → AreSet last l → IsCalm last l (test_of l current a file c)
test_of_calm last l current a file None set = nothing_calm last l set
test_of_calm last l current a file (Some c) set = tested_calm last l current a file (locker_of c a.owner.owner) (last_byte a.offset a.len) set

test_at_calm : (last : ℕ) (s : CoreState) (l : NfsLists) (a : LockTestArgsItem) (current : Option ℕ) → AreSet last l → IsCalm last l (test_at s l a current)
test_at_calm last s l a None set = nothing_calm last l set
test_at_calm last s l a (Some at) set =
    elim (cases_Bool (at == 0)) [
      | inl e ↦ rw e (nothing_calm last l set)
      | inr e ↦ rw e (test_of_calm last l (Some at) a at (client_in s l a.owner.clientid) set)
    ]

test_calm : (last : ℕ) (s : CoreState) (l : NfsLists) (current : Option ℕ) (a : LockTestArgsItem) → AreSet last l → IsCalm last l (lock_test s l current a)
unfolding lock_test
test_calm last s l current a set =
    renewing_calm last l (number_in s a.owner.clientid) (λ t. test_at t l a current) set (λ t le after. test_at_calm t.counter t l a current after)

unlocked_calm : (last : ℕ) (s : CoreState) (l : NfsLists) (current : Option ℕ) (a : UnlockArgs) (r : StateidRow) (owner : ℕ) (seqids : SeqidState) (status : NfsStatus) → IsPassed l r owner seqids → AreSet last l → IsCalm last l (unlocked_as s l current a r owner seqids status)
unlocked_calm last s l current a r owner seqids status passed set =
    elim (cases_Bool (is_ok status)) [
      | inl e ↦ rw e (only_lists last l (done_lists s l r owner seqids 14 a.seqid seqids.confirmed None 0 0 false) (locked_still last s l r owner seqids 14 a.seqid passed set))
      | inr e ↦ rw e (only_lists last l (failed_lists l owner seqids 14 a.seqid status) (failed_so last l r owner seqids 14 a.seqid status passed set))
    ]

unlock_owner_calm : (last : ℕ) (l : NfsLists) (current : Option ℕ) (a : UnlockArgs) (r : StateidRow) (owner : ℕ) (seqids : SeqidState) (end : ℕ) (o : Option Opener) → IsPassed l r owner seqids → AreSet last l → IsCalm last l (unlock_by_owner l current a r owner seqids end o)
unlock_owner_calm last l current a r owner seqids end None passed set = nothing_calm last l set
unlock_owner_calm last l current a r owner seqids end (Some o) passed set = (refl, λ answer t le. unlocked_calm t.counter t l current a r owner seqids (unlock_status answer) passed (later_set last t.counter l le set))

unlock_to_calm : (last : ℕ) (l : NfsLists) (current : Option ℕ) (a : UnlockArgs) (r : StateidRow) (owner : ℕ) (seqids : SeqidState) (end : Option ℕ) → IsPassed l r owner seqids → AreSet last l → IsCalm last l (unlock_to l current a r owner seqids end)
unlock_to_calm last l current a r owner seqids None passed set = only_lists last l (failed_lists l owner seqids 14 a.seqid statuses.Inval) (failed_so last l r owner seqids 14 a.seqid statuses.Inval passed set)
unlock_to_calm last l current a r owner seqids (Some end) passed set = unlock_owner_calm last l current a r owner seqids end (opener_by l r.client owner) passed set

unlock_standing_calm : (last : ℕ) (l : NfsLists) (current : Option ℕ) (a : UnlockArgs) (r : StateidRow) (owner : ℕ) (seqids : SeqidState) (status : Option NfsStatus) → IsPassed l r owner seqids → AreSet last l → IsCalm last l (unlock_standing l current a r owner seqids status)
unlock_standing_calm last l current a r owner seqids (Some status) passed set = only_lists last l (failed_lists l owner seqids 14 a.seqid status) (failed_so last l r owner seqids 14 a.seqid status passed set)
unlock_standing_calm last l current a r owner seqids None passed set = unlock_to_calm last l current a r owner seqids (last_byte a.offset a.len) passed set

unlock_calm : (last : ℕ) (s : CoreState) (l : NfsLists) (current : Option ℕ) (a : UnlockArgs) → AreSet last l → IsCalm last l (unlock s l current a)
unfolding unlock
unlock_calm last s l current a set =
    renewing_calm last l (state_client s l a.stateid) (λ t. unlock_found t l current a (locks_found t l current 14 a.seqid a.stateid)) set
    (λ t le after. counts_calm t.counter t l current kinds.Lock 14 a.seqid a.stateid (λ r w v. unlock_standing l current a r w v (standing_fault r v a.stateid.seqid true)) after (λ r w v passed. unlock_standing_calm t.counter l current a r w v (standing_fault r v a.stateid.seqid true) passed after))

released_still : (last : ℕ) (l : NfsLists) (o : Option OwnerRow) → AreSet last l → AreStill last l (without_found l o)
released_still last l None set = still_self last l set
released_still last l (Some r) set = owner_still last r.number l set

release_of_calm : (last : ℕ) (s : CoreState) (l : NfsLists) (current : Option ℕ) (owner : List ℕ) (c : Option ClientRow) → AreSet last l → IsCalm last l (release_of s l current owner c)
unfolding released
release_of_calm last s l current owner None set = nothing_calm last l set
release_of_calm last s l current owner (Some c) set =
    let row = find (is_owner_named c.number kinds.Lock owner) l.owners in
    elim (cases_Bool (holds_any s c.id owner)) [
      | inl e ↦ rw e (nothing_calm last l set)
      | inr e ↦ rw e (only_lists last l (without_found l row) (released_still last l row set))
    ]

release_calm : (last : ℕ) (s : CoreState) (l : NfsLists) (current : Option ℕ) (a : OwnerItem) → AreSet last l → IsCalm last l (release s l current a)
unfolding release
release_calm last s l current a set =
    renewing_calm last l (number_in s a.clientid) (λ t. release_of t l current a.owner (client_in t l a.clientid)) set (λ t le after. release_of_calm t.counter t l current a.owner (client_in t l a.clientid) after)

-- ---- each operation

pub lock_tied : (n : ℕ) (s : CoreState) (l : NfsLists) (current : Option ℕ) (a : LockArgsItem) → IsGood s → AreTied s l → (let r = carried n s l (first.lock s l current a) in AreTied r.4 r.3)
lock_tied n s l current a good tied = carried_tied n s l (first.lock s l current a) _ good (lock_own n s l current a good) tied (lock_calm s.counter s l current a tied.set)

pub test_tied : (n : ℕ) (s : CoreState) (l : NfsLists) (current : Option ℕ) (a : LockTestArgsItem) → IsGood s → AreTied s l → (let r = carried n s l (lock_test s l current a) in AreTied r.4 r.3)
test_tied n s l current a good tied = carried_tied n s l (lock_test s l current a) _ good (test_own n s l current a good) tied (test_calm s.counter s l current a tied.set)

pub unlock_tied : (n : ℕ) (s : CoreState) (l : NfsLists) (current : Option ℕ) (a : UnlockArgs) → IsGood s → AreTied s l → (let r = carried n s l (unlock s l current a) in AreTied r.4 r.3)
unlock_tied n s l current a good tied = carried_tied n s l (unlock s l current a) _ good (unlock_own n s l current a good) tied (unlock_calm s.counter s l current a tied.set)

pub release_tied : (n : ℕ) (s : CoreState) (l : NfsLists) (current : Option ℕ) (a : OwnerItem) → IsGood s → AreTied s l → (let r = carried n s l (release s l current a) in AreTied r.4 r.3)
release_tied n s l current a good tied = carried_tied n s l (release s l current a) _ good (release_own n s l current a good) tied (release_calm s.counter s l current a tied.set)
