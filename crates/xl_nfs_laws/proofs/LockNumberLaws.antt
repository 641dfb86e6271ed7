-- Each stateid has a number that was given out, whatever an operation on locks comes to.
use Rattle.std.proofs.Common.{ℕ, ◌+◌, ◌≤◌, Bool, true, false, List, [], ◌∷◌, Option, Some, None, Ok, Err, Result, if◌then◌else◌, inl, inr, arith}
use Rattle.std.proofs.lemmas.Bool.{cases_Bool}
use Rattle.std.specs.Bool.{◌==◌}
use Rattle.std.specs.List.{find}
use Rattle.xl_base.proofs.Members.{all_append}
use Rattle.xl_nfs.specs.Basics.{OwnerItem}
use Rattle.xl_nfs.specs.Locks.{LockArgsItem, LockTestArgsItem, LockerItem, NewLockerItem, New, Known}
use Rattle.xl_nfs.specs.Outcomes.{is_ok}
use Rattle.xl_nfs.specs.declared.locks.KnownLocker.{KnownLocker}
use Rattle.xl_nfs.specs.declared.locks.UnlockArgs.{UnlockArgs}
use Rattle.xl_nfs.specs.declared.status.NfsStatus.{NfsStatus}
use Rattle.xl_nfs.specs.declared.status.NfsStatus.TheVariants as statuses
use Rattle.xl_nfs_state.specs.State.{NfsLists, is_kept, is_owner_named, is_whose, with_stateids, without}
use Rattle.xl_nfs_state.specs.declared.client.ClientRow.{ClientRow}
use Rattle.xl_nfs_state.specs.declared.kept.KeptRow.{KeptRow}
use Rattle.xl_nfs_state.specs.declared.owner.OwnerKind.TheVariants as kinds
use Rattle.xl_nfs_state.specs.declared.owner.OwnerRow.{OwnerRow}
use Rattle.xl_nfs_state.specs.declared.owner.SeqidState.{SeqidState}
use Rattle.xl_nfs_state.specs.declared.stateid.StateidRow.{StateidRow}
use Rattle.xl_nfs_state.specs.declared.stateid.Whose.TheVariants as whose
use Rattle.xl_core.specs.Deeds.{Draws}
use Rattle.xl_core.specs.Good.{IsGood}
use Rattle.xl_core.specs.State.{CoreState, drawn}
use Rattle.xl_core.specs.declared.ask.Answer.{Answer}
use Rattle.xl_nfs_laws.proofs.OpenNumberLaws.{counts_few, AreFew, carried_few, counted_given, does_few, done_given, draws, failed_given, later_on, less_given, remembered_given, stood_given, without_given}
use Rattle.xl_nfs_opens.specs.Closing.{checked, done_lists, failed_lists, next_seqids, opener_by, standing_fault, state_told}
use Rattle.xl_nfs_laws.specs.StateidNumbers.{AreGivenOut, StayGivenOut}
use Rattle.xl_nfs_opens.specs.Opens.{client_in, is_granted, stood}
use Rattle.xl_nfs_opens.specs.Plans.{carried, status_of}
use Rattle.xl_nfs_opens.specs.Renewing.{stateid_of}
use Rattle.xl_nfs_opens.specs.Results.{spelled}
use Rattle.xl_nfs_opens.specs.Seqids.{advances, is_room_for, opener_number}
use Rattle.xl_nfs_opens.specs.declared.opener.Opener.{Opener}
use Rattle.xl_nfs_opens.specs.declared.told.Told.{Told}
use Rattle.xl_nfs_opens.specs.declared.told.Told.TheVariants.{Ended, State}
use Rattle.xl_nfs_locks.specs.Checks.{locks_found}
use Rattle.xl_nfs_locks.specs.Denials.{lock_told}
use Rattle.xl_nfs_locks.specs.FirstLocks as first
use Rattle.xl_nfs_locks.specs.Locks.{access_above, lock_answered, lock_by_owner, lock_end, lock_known, lock_standing, lock_to, refused_lists}
use Rattle.xl_nfs_locks.specs.Ranges.{last_byte}
use Rattle.xl_nfs_locks.specs.Releases.{holds_any, release, release_of, released, without_found}
use Rattle.xl_nfs_locks.specs.Tests.{lock_test, locker_of, test_at, test_of, test_to}
use Rattle.xl_nfs_locks.specs.Unlocks.{unlock, unlock_by_owner, unlock_standing, unlock_status, unlock_to, unlocked_as}
use Rattle.xl_nfs_locks.specs.declared.joining.BothOwners.{BothOwners}
use Rattle.xl_nfs_locks.specs.declared.joining.Joined.{Joined}
use Rattle.xl_nfs_locks.specs.declared.joining.Joined.TheVariants.{Bad, Again, Joins}
use Rattle.xl_nfs_laws.proofs.LockOwn.{lock_own, release_own, test_own, unlock_own}

-- ---- LOCK by an owner that has locks there

refused_given : (last : ℕ) (l : NfsLists) (owner : ℕ) (seqids : SeqidState) (seqid : ℕ) (told : Told) → AreGivenOut last l → AreGivenOut last (refused_lists l owner seqids seqid told)
refused_given last l owner seqids seqid told given =
    elim (cases_Bool (advances (status_of told))) [
      | inl e ↦ rw e (counted_given last owner seqids.closed (next_seqids 12 seqid seqids.confirmed None) (spelled 12 told) l given)
      | inr e ↦ rw e given
    ]

answered_few : (l : NfsLists) (current : Option ℕ) (r : StateidRow) (owner : ℕ) (seqids : SeqidState) (seqid : ℕ) (reclaim : Bool) (answer : Answer) (s : CoreState) → AreGivenOut s.counter l → AreFew s.counter (lock_answered l current r owner seqids seqid reclaim answer s)
answered_few l current r owner seqids seqid reclaim answer s given =
    elim (cases_Bool (is_granted answer)) [
      | inl e ↦ rw e (does_few s.counter [] (done_lists s l r owner seqids 12 seqid seqids.confirmed None 0 0 false) (done_given s.counter s l r owner seqids 12 seqid seqids.confirmed None 0 0 false given))
      | inr e ↦ rw e (does_few s.counter [] (refused_lists l owner seqids seqid (lock_told s l reclaim answer)) (refused_given s.counter l owner seqids seqid (lock_told s l reclaim answer) given))
    ]

by_owner_few : (last : ℕ) (l : NfsLists) (current : Option ℕ) (a : LockArgsItem) (r : StateidRow) (owner : ℕ) (seqids : SeqidState) (seqid end : ℕ) (o : Option Opener) → AreGivenOut last l → AreFew last (lock_by_owner l current a r owner seqids seqid end o)
by_owner_few last l current a r owner seqids seqid end None given = does_few last [] l given
by_owner_few last l current a r owner seqids seqid end (Some o) given = λ answer t le. answered_few l current r owner seqids seqid a.reclaim answer t (later_on last t.counter l le given)

to_few : (last : ℕ) (l : NfsLists) (current : Option ℕ) (a : LockArgsItem) (r : StateidRow) (owner : ℕ) (seqids : SeqidState) (seqid : ℕ) (x : Result ℕ NfsStatus) → AreGivenOut last l → AreFew last (lock_to l current a r owner seqids seqid x)
to_few last l current a r owner seqids seqid (Err status) given = does_few last [] (failed_lists l owner seqids 12 seqid status) (failed_given last l owner seqids 12 seqid status given)
to_few last l current a r owner seqids seqid (Ok end) given = by_owner_few last l current a r owner seqids seqid end (opener_by l r.client owner) given

standing_few : (last : ℕ) (l : NfsLists) (current : Option ℕ) (a : LockArgsItem) (r : StateidRow) (owner : ℕ) (seqids : SeqidState) (seqid : ℕ) (x : Option NfsStatus) → AreGivenOut last l → AreFew last (lock_standing l current a r owner seqids seqid x)
standing_few last l current a r owner seqids seqid (Some status) given = does_few last [] (failed_lists l owner seqids 12 seqid status) (failed_given last l owner seqids 12 seqid status given)
standing_few last l current a r owner seqids seqid None given = to_few last l current a r owner seqids seqid (lock_end a.kind (access_above l r.holder) (last_byte a.offset a.len)) given

known_few : (s : CoreState) (l : NfsLists) (current : Option ℕ) (a : LockArgsItem) (x : KnownLocker) → AreGivenOut s.counter l → AreFew s.counter (lock_known s l current a x)
unfolding lock_known
known_few s l current a x given =
    (given, λ t le. (let after = later_on s.counter t.counter l le given in counts_few t.counter t l current (λ r w v. lock_standing l current a r w v x.seqid (standing_fault r v x.stateid.seqid true)) (locks_found t l current 12 x.seqid x.stateid) after (λ r w v. standing_few t.counter l current a r w v x.seqid (standing_fault r v x.stateid.seqid true) after)))

-- ---- LOCK by an owner under an open

open_given : (last : ℕ) (b : BothOwners) (bytes : List ℕ) (l : NfsLists) → AreGivenOut last l → AreGivenOut last (first.counted_open b bytes l)
open_given last b bytes l given = counted_given last b.number b.seqids.closed (next_seqids 12 b.open_seqid b.seqids.confirmed None) bytes l given

both_given : (last : ℕ) (b : BothOwners) (o : Opener) (bytes : List ℕ) (l : NfsLists) → AreGivenOut last l → AreGivenOut last (first.counted_both b o bytes l)
both_given last b o bytes l given = remembered_given last o (next_seqids 12 b.lock_seqid true None) bytes (first.counted_open b bytes l) (open_given last b bytes l given)

both_refused_given : (last : ℕ) (b : BothOwners) (o : Opener) (told : Told) (l : NfsLists) → AreGivenOut last l → AreGivenOut last (if advances (status_of told) then first.counted_both b o (spelled 12 told) l else l)
both_refused_given last b o told l given =
    elim (cases_Bool (advances (status_of told))) [
      | inl e ↦ rw e (both_given last b o (spelled 12 told) l given)
      | inr e ↦ rw e given
    ]

both_refused_few : (last : ℕ) (l : NfsLists) (current : Option ℕ) (b : BothOwners) (o : Opener) (told : Told) → AreGivenOut last l → AreFew last (first.both_refused l current b o told)
both_refused_few last l current b o told given = does_few last [] (if advances (status_of told) then first.counted_both b o (spelled 12 told) l else l) (both_refused_given last b o told l given)

-- a stateid of locks comes, of the number that was given out last
entered_given : (last : ℕ) (r : StateidRow) (l : NfsLists) → r.number ≤ last → AreGivenOut last l → AreGivenOut last (first.entered r l)
unfolding first.entered
entered_given last r l le given =
    let m : NfsLists = with_stateids l (without (is_whose (whose.Stateid r.number)) l.stateids) in
    let left : AreGivenOut last m = less_given last (is_whose (whose.Stateid r.number)) l given in
    elim (cases_Bool (first.can_enter r m)) [
      | inl e ↦ rw e (all_append (λ (q : StateidRow). q.number ≤ last) m.stateids (r ∷ []) left (le, tt))
      | inr e ↦ rw e left
    ]

joined_few : (s : CoreState) (l : NfsLists) (current : Option ℕ) (b : BothOwners) (o : Opener) (r : StateidRow) (q : Option StateidRow) → AreGivenOut s.counter l → AreFew s.counter (first.joined_by s l current b o r q)
joined_few s l current b o r None given =
    let next : ℕ = s.counter + draws (Draws ∷ []) in
    let bytes : List ℕ = spelled 12 (State (stateid_of (drawn s) (s.counter + 1) 1)) in
    let m : NfsLists = first.counted_both b o bytes l in
    entered_given next (first.lock_row (s.counter + 1) r b.number (opener_number o m)) m (omega arith) (both_given next b o bytes l (does_few s.counter (Draws ∷ []) l given))
joined_few s l current b o r (Some q) given =
    let after : NfsLists = stood q.number q 0 0 false l in
    does_few s.counter [] (first.counted_both b o (spelled 12 (state_told s q)) after) (both_given s.counter b o (spelled 12 (state_told s q)) after (stood_given s.counter q.number q 0 0 false l given))

join_answered_few : (l : NfsLists) (current : Option ℕ) (b : BothOwners) (o : Opener) (r : StateidRow) (q : Option StateidRow) (reclaim : Bool) (answer : Answer) (s : CoreState) → AreGivenOut s.counter l → AreFew s.counter (first.join_answered l current b o r q reclaim answer s)
join_answered_few l current b o r q reclaim answer s given =
    elim (cases_Bool (is_granted answer)) [
      | inl e ↦ rw e (joined_few s l current b o r q given)
      | inr e ↦ rw e (both_refused_few s.counter l current b o (lock_told s l reclaim answer) given)
    ]

join_to_few : (last : ℕ) (l : NfsLists) (current : Option ℕ) (a : LockArgsItem) (b : BothOwners) (o : Opener) (r : StateidRow) (q : Option StateidRow) (x : Result ℕ NfsStatus) → AreGivenOut last l → AreFew last (first.join_to l current a b o r q x)
join_to_few last l current a b o r q (Err status) given = both_refused_few last l current b o (Ended status) given
join_to_few last l current a b o r q (Ok end) given =
    elim (cases_Bool (is_room_for o l)) [
      | inl e ↦ rw e (λ answer t le. join_answered_few l current b o r q a.reclaim answer t (later_on last t.counter l le given))
      | inr e ↦ rw e (does_few last [] l given)
    ]

again_few : (last : ℕ) (l : NfsLists) (current : Option ℕ) (b : BothOwners) (k : Option KeptRow) → AreGivenOut last l → AreFew last (first.join_again l current b k)
again_few last l current b None given = does_few last [] l given
again_few last l current b (Some k) given = does_few last [] (first.counted_open b k.result l) (open_given last b k.result l given)

join_as_few : (last : ℕ) (l : NfsLists) (current : Option ℕ) (a : LockArgsItem) (b : BothOwners) (o : Opener) (r : StateidRow) (j : Joined) → AreGivenOut last l → AreFew last (first.join_as l current a b o r j)
join_as_few last l current a b o r Bad given = does_few last [] l given
join_as_few last l current a b o r (Again owner) given = again_few last l current b (find (is_kept owner) l.kept) given
join_as_few last l current a b o r (Joins q) given = join_to_few last l current a b o r q (lock_end a.kind r.standing.access (last_byte a.offset a.len)) given

join_of_few : (last : ℕ) (l : NfsLists) (current : Option ℕ) (a : LockArgsItem) (x : NewLockerItem) (b : BothOwners) (r : StateidRow) (o : Option Opener) → AreGivenOut last l → AreFew last (first.join_of l current a x b r o)
join_of_few last l current a x b r None given = does_few last [] (failed_lists l b.number b.seqids 12 b.open_seqid statuses.Inval) (failed_given last l b.number b.seqids 12 b.open_seqid statuses.Inval given)
join_of_few last l current a x b r (Some o) given = join_as_few last l current a b o r (first.found_joined l r o x.lock_seqid) given

join_standing_few : (last : ℕ) (s : CoreState) (l : NfsLists) (current : Option ℕ) (a : LockArgsItem) (x : NewLockerItem) (b : BothOwners) (r : StateidRow) (status : Option NfsStatus) → AreGivenOut last l → AreFew last (first.join_standing s l current a x b r status)
join_standing_few last s l current a x b r (Some status) given = does_few last [] (failed_lists l b.number b.seqids 12 b.open_seqid status) (failed_given last l b.number b.seqids 12 b.open_seqid status given)
join_standing_few last s l current a x b r None given = join_of_few last l current a x b r (first.locker_under r x.owner.owner (client_in s l x.owner.clientid)) given

named_few : (s : CoreState) (l : NfsLists) (current : Option ℕ) (a : LockArgsItem) (x : NewLockerItem) → AreGivenOut s.counter l → AreFew s.counter (first.lock_named s l current a x)
unfolding first.lock_named
named_few s l current a x given =
    (given, λ t le. (let after = later_on s.counter t.counter l le given in counts_few t.counter t l current (λ r w v. first.join_standing t l current a x (first.both_of x w v) r (standing_fault r v x.open_stateid.seqid true)) (checked t l current 12 x.open_seqid x.open_stateid) after (λ r w v. join_standing_few t.counter t l current a x (first.both_of x w v) r (standing_fault r v x.open_stateid.seqid true) after)))

first_few : (s : CoreState) (l : NfsLists) (current : Option ℕ) (a : LockArgsItem) (x : NewLockerItem) → AreGivenOut s.counter l → AreFew s.counter (first.lock_new s l current a x)
unfolding first.lock_new
first_few s l current a x given = (given, λ t le. named_few t l current a x (later_on s.counter t.counter l le given))

pub lock_few : (s : CoreState) (l : NfsLists) (current : Option ℕ) (a : LockArgsItem) → AreGivenOut s.counter l → AreFew s.counter (first.lock s l current a)
unfolding first.lock
lock_few s l current a given = by a.locker
  where
    by : (x : LockerItem) → AreFew s.counter (first.lock_by s l current a x)
    by (New x) = first_few s l current a x given
    by (Known x) = known_few s l current a x given

-- ---- LOCKT, LOCKU, RELEASE_LOCKOWNER

tested_few : (last : ℕ) (l : NfsLists) (current : Option ℕ) (a : LockTestArgsItem) (file : ℕ) (o : Opener) (end : Option ℕ) → AreGivenOut last l → AreFew last (test_to l current a file o end)
tested_few last l current a file o None given = does_few last [] l given
tested_few last l current a file o (Some end) given = λ answer t le. does_few t.counter [] l (later_on last t.counter l le given)

test_of_few : (last : ℕ) (l : NfsLists) (current : Option ℕ) (a : LockTestArgsItem) (file : ℕ) (c : Option ClientRow) → AreGivenOut last l → AreFew last (test_of l current a file c)
test_of_few last l current a file None given = does_few last [] l given
test_of_few last l current a file (Some c) given = tested_few last l current a file (locker_of c a.owner.owner) (last_byte a.offset a.len) given

test_at_few : (last : ℕ) (s : CoreState) (l : NfsLists) (a : LockTestArgsItem) (current : Option ℕ) → AreGivenOut last l → AreFew last (test_at s l a current)
test_at_few last s l a None given = does_few last [] l given
test_at_few last s l a (Some at) given =
    elim (cases_Bool (at == 0)) [
      | inl e ↦ rw e (does_few last [] l given)
      | inr e ↦ rw e (test_of_few last l (Some at) a at (client_in s l a.owner.clientid) given)
    ]

pub test_few : (s : CoreState) (l : NfsLists) (current : Option ℕ) (a : LockTestArgsItem) → AreGivenOut s.counter l → AreFew s.counter (lock_test s l current a)
unfolding lock_test
test_few s l current a given = (given, λ t le. test_at_few t.counter t l a current (later_on s.counter t.counter l le given))

unlocked_few : (s : CoreState) (l : NfsLists) (current : Option ℕ) (a : UnlockArgs) (r : StateidRow) (owner : ℕ) (seqids : SeqidState) (status : NfsStatus) → AreGivenOut s.counter l → AreFew s.counter (unlocked_as s l current a r owner seqids status)
unlocked_few s l current a r owner seqids status given =
    elim (cases_Bool (is_ok status)) [
      | inl e ↦ rw e (does_few s.counter [] (done_lists s l r owner seqids 14 a.seqid seqids.confirmed None 0 0 false) (done_given s.counter s l r owner seqids 14 a.seqid seqids.confirmed None 0 0 false given))
      | inr e ↦ rw e (does_few s.counter [] (failed_lists l owner seqids 14 a.seqid status) (failed_given s.counter l owner seqids 14 a.seqid status given))
    ]

unlock_owner_few : (last : ℕ) (l : NfsLists) (current : Option ℕ) (a : UnlockArgs) (r : StateidRow) (owner : ℕ) (seqids : SeqidState) (end : ℕ) (o : Option Opener) → AreGivenOut last l → AreFew last (unlock_by_owner l current a r owner seqids end o)
unlock_owner_few last l current a r owner seqids end None given = does_few last [] l given
unlock_owner_few last l current a r owner seqids end (Some o) given = λ answer t le. unlocked_few t l current a r owner seqids (unlock_status answer) (later_on last t.counter l le given)

unlock_to_few : (last : ℕ) (l : NfsLists) (current : Option ℕ) (a : UnlockArgs) (r : StateidRow) (owner : ℕ) (seqids : SeqidState) (end : Option ℕ) → AreGivenOut last l → AreFew last (unlock_to l current a r owner seqids end)
unlock_to_few last l current a r owner seqids None given = does_few last [] (failed_lists l owner seqids 14 a.seqid statuses.Inval) (failed_given last l owner seqids 14 a.seqid statuses.Inval given)
unlock_to_few last l current a r owner seqids (Some end) given = unlock_owner_few last l current a r owner seqids end (opener_by l r.client owner) given

unlock_standing_few : (last : ℕ) (l : NfsLists) (current : Option ℕ) (a : UnlockArgs) (r : StateidRow) (owner : ℕ) (seqids : SeqidState) (status : Option NfsStatus) → AreGivenOut last l → AreFew last (unlock_standing l current a r owner seqids status)
unlock_standing_few last l current a r owner seqids (Some status) given = does_few last [] (failed_lists l owner seqids 14 a.seqid status) (failed_given last l owner seqids 14 a.seqid status given)
unlock_standing_few last l current a r owner seqids None given = unlock_to_few last l current a r owner seqids (last_byte a.offset a.len) given

pub unlock_few : (s : CoreState) (l : NfsLists) (current : Option ℕ) (a : UnlockArgs) → AreGivenOut s.counter l → AreFew s.counter (unlock s l current a)
unfolding unlock
unlock_few s l current a given =
    (given, λ t le. (let after = later_on s.counter t.counter l le given in counts_few t.counter t l current (λ r w v. unlock_standing l current a r w v (standing_fault r v a.stateid.seqid true)) (locks_found t l current 14 a.seqid a.stateid) after (λ r w v. unlock_standing_few t.counter l current a r w v (standing_fault r v a.stateid.seqid true) after)))

found_given : (last : ℕ) (l : NfsLists) (o : Option OwnerRow) → AreGivenOut last l → AreGivenOut last (without_found l o)
found_given last l None given = given
found_given last l (Some r) given = without_given last r.number l given

release_of_few : (last : ℕ) (s : CoreState) (l : NfsLists) (current : Option ℕ) (owner : List ℕ) (c : Option ClientRow) → AreGivenOut last l → AreFew last (release_of s l current owner c)
unfolding released
release_of_few last s l current owner None given = does_few last [] l given
release_of_few last s l current owner (Some c) given =
    let row = find (is_owner_named c.number kinds.Lock owner) l.owners in
    elim (cases_Bool (holds_any s c.id owner)) [
      | inl e ↦ rw e (does_few last [] l given)
      | inr e ↦ rw e (does_few last [] (without_found l row) (found_given last l row given))
    ]

pub release_few : (s : CoreState) (l : NfsLists) (current : Option ℕ) (a : OwnerItem) → AreGivenOut s.counter l → AreFew s.counter (release s l current a)
unfolding release
release_few s l current a given = (given, λ t le. release_of_few t.counter t l current a.owner (client_in t l a.clientid) (later_on s.counter t.counter l le given))

-- ---- each operation

pub lock_given : (n : ℕ) (s : CoreState) (l : NfsLists) (current : Option ℕ) (a : LockArgsItem) → IsGood s → AreGivenOut s.counter l → StayGivenOut s (carried n s l (first.lock s l current a))
lock_given n s l current a good given = carried_few n s l (first.lock s l current a) _ good (lock_own n s l current a good) given (lock_few s l current a given)

pub test_given : (n : ℕ) (s : CoreState) (l : NfsLists) (current : Option ℕ) (a : LockTestArgsItem) → IsGood s → AreGivenOut s.counter l → StayGivenOut s (carried n s l (lock_test s l current a))
test_given n s l current a good given = carried_few n s l (lock_test s l current a) _ good (test_own n s l current a good) given (test_few s l current a given)

pub unlock_given : (n : ℕ) (s : CoreState) (l : NfsLists) (current : Option ℕ) (a : UnlockArgs) → IsGood s → AreGivenOut s.counter l → StayGivenOut s (carried n s l (unlock s l current a))
unlock_given n s l current a good given = carried_few n s l (unlock s l current a) _ good (unlock_own n s l current a good) given (unlock_few s l current a given)

pub release_given : (n : ℕ) (s : CoreState) (l : NfsLists) (current : Option ℕ) (a : OwnerItem) → IsGood s → AreGivenOut s.counter l → StayGivenOut s (carried n s l (release s l current a))
release_given n s l current a good given = carried_few n s l (release s l current a) _ good (release_own n s l current a good) given (release_few s l current a given)
