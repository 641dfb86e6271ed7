-- The records of clients stay as they are, whatever an operation on opens or on locks comes to.
use Rattle.std.proofs.Common.{◌≡◌, ℕ, ◌+◌, Bool, true, false, ◌||◌, List, Option, Some, None, Result, Ok, Err, refl, ◌∙◌, inl, inr}
use Rattle.std.proofs.lemmas.Bool.{cases_Bool}
use Rattle.std.specs.Bool.{◌==◌}
use Rattle.std.specs.List.{find}
use Rattle.xl_nfs.specs.Basics.{OwnerItem}
use Rattle.xl_nfs.specs.Locks.{LockArgsItem, LockTestArgsItem, LockerItem, NewLockerItem, New, Known}
use Rattle.xl_nfs.specs.Opens.{OpenArgsItem}
use Rattle.xl_nfs.specs.Outcomes.{is_ok}
use Rattle.xl_nfs.specs.declared.basics.Stateid.{Stateid}
use Rattle.xl_nfs.specs.declared.locks.KnownLocker.{KnownLocker}
use Rattle.xl_nfs.specs.declared.locks.UnlockArgs.{UnlockArgs}
use Rattle.xl_nfs.specs.declared.opens.CloseArgs.{CloseArgs}
use Rattle.xl_nfs.specs.declared.opens.OpenConfirmArgs.{OpenConfirmArgs}
use Rattle.xl_nfs.specs.declared.opens.OpenDowngradeArgs.{OpenDowngradeArgs}
use Rattle.xl_nfs.specs.declared.status.NfsStatus.{NfsStatus}
use Rattle.xl_nfs.specs.declared.status.NfsStatus.TheVariants as statuses
use Rattle.xl_nfs_state.specs.State.{NfsLists, is_kept, is_owner_named, is_whose, with_stateids, without, without_owner}
use Rattle.xl_nfs_state.specs.Verdict.{next_seqid}
use Rattle.xl_nfs_state.specs.declared.client.ClientRow.{ClientRow}
use Rattle.xl_nfs_state.specs.declared.kept.KeptRow.{KeptRow}
use Rattle.xl_nfs_state.specs.declared.owner.OwnerKind.TheVariants as kinds
use Rattle.xl_nfs_state.specs.declared.owner.OwnerRow.{OwnerRow}
use Rattle.xl_nfs_state.specs.declared.owner.SeqidState.{SeqidState}
use Rattle.xl_nfs_state.specs.declared.stateid.StateidRow.{StateidRow}
use Rattle.xl_nfs_state.specs.declared.stateid.Whose.TheVariants as whose
use Rattle.xl_core.specs.State.{CoreState, drawn}
use Rattle.xl_core.specs.declared.ask.Answer.{Answer}
use Rattle.xl_plan.specs.Plans.{AllKept}
use Rattle.xl_nfs_opens.specs.Closing.{checked_as, counts, close, close_done, confirm_done, Returning, returned, return_done, deleg_return, done_lists, told_lists, next_seqids, open_confirm, opener_by, standing_fault, state_told}
use Rattle.xl_nfs_opens.specs.Downgrades.{downgrade_done, downgrade_fault, open_downgrade}
use Rattle.xl_nfs_opens.specs.Opens.{answer_status, answered, can_stand, delegated, delegated_in, delegation_row, delegation_told, drawn_for, granted_wish, wish_of, either_bits, entered, granted_by, has_room, is_granted, judged, open_as, open_at, open_by, open_claimed, open_file, open_held, open_judged, open_of, open_row, open_seqids, opened_file, opened_told, opener_of, client_in, reclaims, refused_lists, repeated, stood}
use Rattle.xl_nfs_opens.specs.Plans.{Plan, status_of}
use Rattle.xl_nfs_opens.specs.Renewing.{stateid_of}
use Rattle.xl_nfs_opens.specs.Results.{spelled}
use Rattle.xl_nfs_opens.specs.Seqids.{advances, is_room_for, opener_number, seated}
use Rattle.xl_nfs_opens.specs.declared.opener.Checked.{Checked}
use Rattle.xl_nfs_opens.specs.declared.opener.Checked.TheVariants.{Refused, Repeated, Passed}
use Rattle.xl_nfs_opens.specs.declared.opener.Judged.{Judged}
use Rattle.xl_nfs_opens.specs.declared.opener.Judged.TheVariants as judgements
use Rattle.xl_nfs_opens.specs.declared.opener.Opener.{Opener}
use Rattle.xl_nfs_opens.specs.declared.told.Told.{Told}
use Rattle.xl_nfs_opens.specs.declared.told.Told.TheVariants.{Ended, State}
use Rattle.xl_nfs_locks.specs.Denials.{lock_told}
use Rattle.xl_nfs_locks.specs.FirstLocks as first
use Rattle.xl_nfs_locks.specs.Locks.{access_above, lock_answered, lock_by_owner, lock_end, lock_known, lock_standing, lock_to}
use Rattle.xl_nfs_locks.specs.Ranges.{last_byte}
use Rattle.xl_nfs_locks.specs.Releases.{holds_any, release, release_of, released, without_found}
use Rattle.xl_nfs_locks.specs.Tests.{lock_test, locker_of, test_at, test_of, test_to}
use Rattle.xl_nfs_locks.specs.Unlocks.{unlock, unlock_by_owner, unlock_standing, unlock_status, unlock_to, unlocked_as}
use Rattle.xl_nfs_locks.specs.declared.joining.BothOwners.{BothOwners}
use Rattle.xl_nfs_locks.specs.declared.joining.Joined.{Joined}
use Rattle.xl_nfs_locks.specs.declared.joining.Joined.TheVariants.{Bad, Again, Joins}
use Rattle.xl_nfs_laws.proofs.FirstLockLaws.{counted_clients, kept_clients, remembered_clients}
use Rattle.xl_nfs_laws.proofs.KnownOpenLaws.{seated_clients}
use Rattle.xl_nfs_laws.proofs.ToldDelegationLaws.{entered_clients}

-- the second has the records of clients that the first has
abbrev pub Same : NfsLists → NfsLists → Type 0
Same l m = m.clients ≡ l.clients

-- whatever it comes to, the records of clients are these
abbrev pub Stays : NfsLists → Plan → Type 0
Stays l plan = AllKept (Same l) plan

-- ---- a request on a stateid

told_same : (l : NfsLists) (owner : ℕ) (seqids : SeqidState) (op seqid : ℕ) (told : Told) → Same l (told_lists l owner seqids op seqid told)
told_same l owner seqids op seqid told =
    elim (cases_Bool (advances (status_of told))) [
      | inl e ↦ rw e (counted_clients owner seqids.closed (next_seqids op seqid seqids.confirmed None) (spelled op told) l)
      | inr e ↦ rw e refl
    ]

done_same : (s : CoreState) (l : NfsLists) (r : StateidRow) (owner : ℕ) (seqids : SeqidState) (op seqid : ℕ) (confirmed : Bool) (closing : Option ℕ) (access deny : ℕ) (closed : Bool) → Same l (done_lists s l r owner seqids op seqid confirmed closing access deny closed)
done_same s l r owner seqids op seqid confirmed closing access deny closed = counted_clients owner seqids.closed (next_seqids op seqid confirmed closing) (spelled op (state_told s r)) (stood r.number r access deny closed l)

repeat_stays : (s : CoreState) (l : NfsLists) (current : Option ℕ) (o : Option KeptRow) → Stays l (repeated s l current o)
repeat_stays s l current None = refl
repeat_stays s l current (Some k) = refl

counts_stays : (s : CoreState) (l : NfsLists) (current : Option ℕ) (rest : StateidRow → ℕ → SeqidState → Plan) (c : Checked) → ((r : StateidRow) (w : ℕ) (v : SeqidState) → Stays l (rest r w v)) → Stays l (counts s l current rest c)
counts_stays s l current rest (Refused status) each = refl
counts_stays s l current rest (Repeated owner) each = repeat_stays s l current (find (is_kept owner) l.kept)
counts_stays s l current rest (Passed r w v) each = each r w v

-- ---- OPEN

delegated_same : (s : CoreState) (o : Opener) (file : ℕ) (write : Option Bool) (l : NfsLists) → Same l (delegated s o file write l)
unfolding delegated_in
delegated_same s o file None l = refl
delegated_same s o file (Some write) l =
    elim (cases_Bool (can_stand (delegation_row (s.counter + 1) o file write) l)) [
      | inl e ↦ rw e refl
      | inr e ↦ rw e refl
    ]

refused_same : (o : Opener) (a : OpenArgsItem) (confirmed : Bool) (status : NfsStatus) (l : NfsLists) → Same l (refused_lists o a confirmed status l)
refused_same o a confirmed status l =
    elim (cases_Bool (advances status)) [
      | inl e ↦ rw e (remembered_clients o (open_seqids a confirmed) (spelled 18 (Ended status)) l)
      | inr e ↦ rw e refl
    ]

granted_stays : (s : CoreState) (l : NfsLists) (o : Opener) (a : OpenArgsItem) (file : ℕ) (confirmed : Bool) (write : Option Bool) (x : Option StateidRow) → Stays l (granted_by s l o a file confirmed write x)
granted_stays s l o a file confirmed write None =
    let there = seated o (open_seqids a confirmed) l in
    let row = open_row (s.counter + 1) o (opener_number o l) file a in
    kept_clients (opener_number o l) (spelled 18 (opened_told (drawn_for write (drawn s)) (s.counter + 1) 1 confirmed (delegation_told (drawn s) write))) (delegated (drawn s) o file write (entered row there))
    ∙ delegated_same (drawn s) o file write (entered row there)
    ∙ entered_clients row there
    ∙ seated_clients o (open_seqids a confirmed) l
granted_stays s l o a file confirmed write (Some r) =
    let after = stood r.number r (either_bits r.standing.access a.access) (either_bits r.standing.deny a.deny) false l in
    let there = seated o (open_seqids a confirmed) after in
    kept_clients (opener_number o l) (spelled 18 (opened_told (drawn_for write s) r.number (next_seqid r.standing.seqid) confirmed (delegation_told s write))) (delegated s o file write there)
    ∙ delegated_same s o file write there
    ∙ seated_clients o (open_seqids a confirmed) after

answered_stays : (l : NfsLists) (current : Option ℕ) (o : Opener) (a : OpenArgsItem) (file : ℕ) (confirmed : Bool) (wish : Option Bool) (answer : Answer) (s : CoreState) → Stays l (answered l current o a file confirmed wish answer s)
answered_stays l current o a file confirmed wish answer s =
    elim (cases_Bool (is_granted answer)) [
      | inl e ↦ rw e (granted_stays s l o a file (confirmed || reclaims a.claim) (granted_wish s o file wish) (open_held l o file))
      | inr e ↦ rw e (refused_same o a confirmed (answer_status (reclaims a.claim) answer) l)
    ]

by_stays : (others : ℕ) (s : CoreState) (l : NfsLists) (current : Option ℕ) (o : Opener) (a : OpenArgsItem) (confirmed : Bool) (r : Result ℕ NfsStatus) → Stays l (open_by others s l current o a confirmed r)
by_stays others s l current o a confirmed (Err status) = refused_same o a confirmed status l
by_stays others s l current o a confirmed (Ok file) =
    elim (cases_Bool (has_room others l o file)) [
      | inl e ↦ rw e (λ answer t. answered_stays l current o a file confirmed (wish_of s l o a confirmed file) answer t)
      | inr e ↦ rw e refl
    ]

as_stays : (files : List (List ℕ)) (others : ℕ) (s : CoreState) (l : NfsLists) (current : Option ℕ) (at : ℕ) (o : Opener) (a : OpenArgsItem) (confirmed : Bool) → Stays l (open_as files others s l current at o a confirmed)
unfolding open_as
as_stays files others s l current at o a confirmed = by_stays others s l current o a confirmed (opened_file files s l o.client at a)

judged_stays : (files : List (List ℕ)) (others : ℕ) (s : CoreState) (l : NfsLists) (current : Option ℕ) (at : ℕ) (o : Opener) (a : OpenArgsItem) (j : Judged) → Stays l (open_judged files others s l current at o a j)
judged_stays files others s l current at o a judgements.Bad = refl
judged_stays files others s l current at o a (judgements.Repeats number) = repeat_stays s l current (find (is_kept number) l.kept)
judged_stays files others s l current at o a (judgements.Anew number) = (refl, λ t. as_stays files others t (without_owner number l) current at o a false)
judged_stays files others s l current at o a judgements.New = as_stays files others s l current at o a false
judged_stays files others s l current at o a judgements.Next = as_stays files others s l current at o a true

at_stays : (files : List (List ℕ)) (others : ℕ) (s : CoreState) (l : NfsLists) (a : OpenArgsItem) (current : Option ℕ) → Stays l (open_at files others s l a current)
at_stays files others s l a None = refl
at_stays files others s l a (Some at) = of (client_in s l a.owner.clientid)
  where
    of : (c : Option ClientRow) → Stays l (open_of files others s l (Some at) at a c)
    of None = refl
    of (Some c) = judged_stays files others s l (Some at) at (opener_of c a) a (judged l (opener_of c a) a.seqid)

pub open_stays : (files : List (List ℕ)) (others : ℕ) (s : CoreState) (l : NfsLists) (current : Option ℕ) (a : OpenArgsItem) → Stays l (open_file files others s l current a)
unfolding open_file open_claimed
open_stays files others s l current a = (refl, λ t. (refl, λ u. at_stays files others u l a current))

-- ---- OPEN_CONFIRM, OPEN_DOWNGRADE, CLOSE, DELEGRETURN

confirm_done_stays : (s : CoreState) (l : NfsLists) (current : Option ℕ) (a : OpenConfirmArgs) (r : StateidRow) (owner : ℕ) (seqids : SeqidState) (x : Option NfsStatus) → Stays l (confirm_done s l current a r owner seqids x)
confirm_done_stays s l current a r owner seqids (Some status) = told_same l owner seqids 20 a.seqid (Ended status)
confirm_done_stays s l current a r owner seqids None = done_same s l r owner seqids 20 a.seqid true None r.standing.access r.standing.deny false

pub confirm_stays : (s : CoreState) (l : NfsLists) (current : Option ℕ) (a : OpenConfirmArgs) → Stays l (open_confirm s l current a)
unfolding open_confirm
confirm_stays s l current a = (refl, λ t. counts_stays t l current (λ r w v. confirm_done t l current a r w v (standing_fault r v a.stateid.seqid false)) (checked_as kinds.Open t l current 20 a.seqid a.stateid) (λ r w v. confirm_done_stays t l current a r w v (standing_fault r v a.stateid.seqid false)))

downgrade_done_stays : (s : CoreState) (l : NfsLists) (current : Option ℕ) (a : OpenDowngradeArgs) (r : StateidRow) (owner : ℕ) (seqids : SeqidState) (x : Option NfsStatus) → Stays l (downgrade_done s l current a r owner seqids x)
downgrade_done_stays s l current a r owner seqids (Some status) = told_same l owner seqids 21 a.seqid (Ended status)
downgrade_done_stays s l current a r owner seqids None = done_same s l r owner seqids 21 a.seqid seqids.confirmed None a.access a.deny false

pub downgrade_stays : (s : CoreState) (l : NfsLists) (current : Option ℕ) (a : OpenDowngradeArgs) → Stays l (open_downgrade s l current a)
unfolding open_downgrade
downgrade_stays s l current a = (refl, λ t. counts_stays t l current (λ r w v. downgrade_done t l current a r w v (downgrade_fault r v a)) (checked_as kinds.Open t l current 21 a.seqid a.stateid) (λ r w v. downgrade_done_stays t l current a r w v (downgrade_fault r v a)))

close_done_stays : (s : CoreState) (l : NfsLists) (current : Option ℕ) (a : CloseArgs) (r : StateidRow) (owner : ℕ) (seqids : SeqidState) (x : Option NfsStatus) → Stays l (close_done s l current a r owner seqids x)
close_done_stays s l current a r owner seqids (Some status) = told_same l owner seqids 4 a.seqid (Ended status)
close_done_stays s l current a r owner seqids None = (refl, λ t. done_same t l r owner seqids 4 a.seqid seqids.confirmed (Some r.number) r.standing.access r.standing.deny true)

pub close_stays : (s : CoreState) (l : NfsLists) (current : Option ℕ) (a : CloseArgs) → Stays l (close s l current a)
unfolding close
close_stays s l current a = (refl, λ t. counts_stays t l current (λ r w v. close_done t l current a r w v (standing_fault r v a.stateid.seqid true)) (checked_as kinds.Open t l current 4 a.seqid a.stateid) (λ r w v. close_done_stays t l current a r w v (standing_fault r v a.stateid.seqid true)))

pub return_stays : (s : CoreState) (l : NfsLists) (current : Option ℕ) (stateid : Stateid) → Stays l (deleg_return s l current stateid)
unfolding deleg_return
return_stays s l current stateid = (refl, λ t. by t (returned t l current stateid))
  where
    by : (t : CoreState) (x : Returning) → Stays l (return_done t l current x)
    by t (Err status) = refl
    by t (Ok r) = refl

-- ---- LOCK by an owner that has locks there

lock_answered_stays : (l : NfsLists) (current : Option ℕ) (r : StateidRow) (owner : ℕ) (seqids : SeqidState) (seqid : ℕ) (reclaim : Bool) (answer : Answer) (s : CoreState) → Stays l (lock_answered l current r owner seqids seqid reclaim answer s)
lock_answered_stays l current r owner seqids seqid reclaim answer s =
    elim (cases_Bool (is_granted answer)) [
      | inl e ↦ rw e (done_same s l r owner seqids 12 seqid seqids.confirmed None 0 0 false)
      | inr e ↦ rw e (told_same l owner seqids 12 seqid (lock_told s l reclaim answer))
    ]

by_owner_stays : (l : NfsLists) (current : Option ℕ) (a : LockArgsItem) (r : StateidRow) (owner : ℕ) (seqids : SeqidState) (seqid last : ℕ) (o : Option Opener) → Stays l (lock_by_owner l current a r owner seqids seqid last o)
by_owner_stays l current a r owner seqids seqid last None = refl
by_owner_stays l current a r owner seqids seqid last (Some o) = λ answer t. lock_answered_stays l current r owner seqids seqid a.reclaim answer t

to_stays : (l : NfsLists) (current : Option ℕ) (a : LockArgsItem) (r : StateidRow) (owner : ℕ) (seqids : SeqidState) (seqid : ℕ) (x : Result ℕ NfsStatus) → Stays l (lock_to l current a r owner seqids seqid x)
to_stays l current a r owner seqids seqid (Err status) = told_same l owner seqids 12 seqid (Ended status)
to_stays l current a r owner seqids seqid (Ok last) = by_owner_stays l current a r owner seqids seqid last (opener_by l r.client owner)

standing_stays : (l : NfsLists) (current : Option ℕ) (a : LockArgsItem) (r : StateidRow) (owner : ℕ) (seqids : SeqidState) (seqid : ℕ) (x : Option NfsStatus) → Stays l (lock_standing l current a r owner seqids seqid x)
standing_stays l current a r owner seqids seqid (Some status) = told_same l owner seqids 12 seqid (Ended status)
standing_stays l current a r owner seqids seqid None = to_stays l current a r owner seqids seqid (lock_end a.kind (access_above l r.holder) (last_byte a.offset a.len))

known_stays : (s : CoreState) (l : NfsLists) (current : Option ℕ) (a : LockArgsItem) (x : KnownLocker) → Stays l (lock_known s l current a x)
unfolding lock_known
known_stays s l current a x = (refl, λ t. counts_stays t l current (λ r w v. lock_standing l current a r w v x.seqid (standing_fault r v x.stateid.seqid true)) (checked_as kinds.Lock t l current 12 x.seqid x.stateid) (λ r w v. standing_stays l current a r w v x.seqid (standing_fault r v x.stateid.seqid true)))

-- ---- LOCK by an owner under an open

open_counted_same : (l : NfsLists) (b : BothOwners) (bytes : List ℕ) → Same l (first.counted_open b bytes l)
open_counted_same l b bytes = counted_clients b.number b.seqids.closed (next_seqids 12 b.open_seqid b.seqids.confirmed None) bytes l

both_counted_same : (l : NfsLists) (b : BothOwners) (o : Opener) (bytes : List ℕ) → Same l (first.counted_both b o bytes l)
both_counted_same l b o bytes = remembered_clients o (next_seqids 12 b.lock_seqid true None) bytes (first.counted_open b bytes l) ∙ open_counted_same l b bytes

both_refused_stays : (l : NfsLists) (current : Option ℕ) (b : BothOwners) (o : Opener) (told : Told) → Stays l (first.both_refused l current b o told)
both_refused_stays l current b o told =
    elim (cases_Bool (advances (status_of told))) [
      | inl e ↦ rw e (both_counted_same l b o (spelled 12 told))
      | inr e ↦ rw e refl
    ]

lock_entered_same : (r : StateidRow) (l : NfsLists) → Same l (first.entered r l)
unfolding first.entered
lock_entered_same r l =
    elim (cases_Bool (first.can_enter r (with_stateids l (without (is_whose (whose.Stateid r.number)) l.stateids)))) [
      | inl e ↦ rw e refl
      | inr e ↦ rw e refl
    ]

joined_stays : (s : CoreState) (l : NfsLists) (current : Option ℕ) (b : BothOwners) (o : Opener) (r : StateidRow) (q : Option StateidRow) → Stays l (first.joined_by s l current b o r q)
joined_stays s l current b o r None =
    let bytes = spelled 12 (State (stateid_of (drawn s) (s.counter + 1) 1)) in
    let m = first.counted_both b o bytes l in
    lock_entered_same (first.lock_row (s.counter + 1) r b.number (opener_number o m)) m ∙ both_counted_same l b o bytes
joined_stays s l current b o r (Some q) = both_counted_same (stood q.number q 0 0 false l) b o (spelled 12 (state_told s q))

join_answered_stays : (l : NfsLists) (current : Option ℕ) (b : BothOwners) (o : Opener) (r : StateidRow) (q : Option StateidRow) (reclaim : Bool) (answer : Answer) (s : CoreState) → Stays l (first.join_answered l current b o r q reclaim answer s)
join_answered_stays l current b o r q reclaim answer s =
    elim (cases_Bool (is_granted answer)) [
      | inl e ↦ rw e (joined_stays s l current b o r q)
      | inr e ↦ rw e (both_refused_stays l current b o (lock_told s l reclaim answer))
    ]

join_to_stays : (l : NfsLists) (current : Option ℕ) (a : LockArgsItem) (b : BothOwners) (o : Opener) (r : StateidRow) (q : Option StateidRow) (last : Result ℕ NfsStatus) → Stays l (first.join_to l current a b o r q last)
join_to_stays l current a b o r q (Err status) = both_refused_stays l current b o (Ended status)
join_to_stays l current a b o r q (Ok last) =
    elim (cases_Bool (is_room_for o l)) [
      | inl e ↦ rw e (λ answer t. join_answered_stays l current b o r q a.reclaim answer t)
      | inr e ↦ rw e refl
    ]

again_stays : (l : NfsLists) (current : Option ℕ) (b : BothOwners) (k : Option KeptRow) → Stays l (first.join_again l current b k)
again_stays l current b None = refl
again_stays l current b (Some k) = open_counted_same l b k.result

join_as_stays : (l : NfsLists) (current : Option ℕ) (a : LockArgsItem) (b : BothOwners) (o : Opener) (r : StateidRow) (j : Joined) → Stays l (first.join_as l current a b o r j)
join_as_stays l current a b o r Bad = refl
join_as_stays l current a b o r (Again owner) = again_stays l current b (find (is_kept owner) l.kept)
join_as_stays l current a b o r (Joins q) = join_to_stays l current a b o r q (lock_end a.kind r.standing.access (last_byte a.offset a.len))

join_of_stays : (l : NfsLists) (current : Option ℕ) (a : LockArgsItem) (x : NewLockerItem) (b : BothOwners) (r : StateidRow) (o : Option Opener) → Stays l (first.join_of l current a x b r o)
join_of_stays l current a x b r None = told_same l b.number b.seqids 12 b.open_seqid (Ended statuses.Inval)
join_of_stays l current a x b r (Some o) = join_as_stays l current a b o r (first.found_joined l r o x.lock_seqid)

join_standing_stays : (s : CoreState) (l : NfsLists) (current : Option ℕ) (a : LockArgsItem) (x : NewLockerItem) (b : BothOwners) (r : StateidRow) (status : Option NfsStatus) → Stays l (first.join_standing s l current a x b r status)
join_standing_stays s l current a x b r (Some status) = told_same l b.number b.seqids 12 b.open_seqid (Ended status)
join_standing_stays s l current a x b r None = join_of_stays l current a x b r (first.locker_under r x.owner.owner (client_in s l x.owner.clientid))

named_stays : (s : CoreState) (l : NfsLists) (current : Option ℕ) (a : LockArgsItem) (x : NewLockerItem) → Stays l (first.lock_named s l current a x)
unfolding first.lock_named
named_stays s l current a x = (refl, λ t. counts_stays t l current (λ r w v. first.join_standing t l current a x (first.both_of x w v) r (standing_fault r v x.open_stateid.seqid true)) (checked_as kinds.Open t l current 12 x.open_seqid x.open_stateid) (λ r w v. join_standing_stays t l current a x (first.both_of x w v) r (standing_fault r v x.open_stateid.seqid true)))

first_stays : (s : CoreState) (l : NfsLists) (current : Option ℕ) (a : LockArgsItem) (x : NewLockerItem) → Stays l (first.lock_new s l current a x)
unfolding first.lock_new
first_stays s l current a x = (refl, λ t. named_stays t l current a x)

pub lock_stays : (s : CoreState) (l : NfsLists) (current : Option ℕ) (a : LockArgsItem) → Stays l (first.lock s l current a)
unfolding first.lock
lock_stays s l current a = by a.locker
  where
    by : (x : LockerItem) → Stays l (first.lock_by s l current a x)
    by (New x) = first_stays s l current a x
    by (Known x) = known_stays s l current a x

-- ---- LOCKT, LOCKU, RELEASE_LOCKOWNER

tested_stays : (l : NfsLists) (current : Option ℕ) (a : LockTestArgsItem) (file : ℕ) (o : Opener) (last : Option ℕ) → Stays l (test_to l current a file o last)
tested_stays l current a file o None = refl
tested_stays l current a file o (Some last) = λ answer t. refl

test_of_stays : (l : NfsLists) (current : Option ℕ) (a : LockTestArgsItem) (file : ℕ) (c : Option ClientRow) → Stays l (test_of l current a file c)
test_of_stays l current a file None = refl
test_of_stays l current a file (Some c) = tested_stays l current a file (locker_of c a.owner.owner) (last_byte a.offset a.len)

test_at_stays : (s : CoreState) (l : NfsLists) (a : LockTestArgsItem) (current : Option ℕ) → Stays l (test_at s l a current)
test_at_stays s l a None = refl
test_at_stays s l a (Some at) =
    elim (cases_Bool (at == 0)) [
      | inl e ↦ rw e refl
      | inr e ↦ rw e (test_of_stays l (Some at) a at (client_in s l a.owner.clientid))
    ]

pub test_stays : (s : CoreState) (l : NfsLists) (current : Option ℕ) (a : LockTestArgsItem) → Stays l (lock_test s l current a)
unfolding lock_test
test_stays s l current a = (refl, λ t. test_at_stays t l a current)

unlocked_stays : (s : CoreState) (l : NfsLists) (current : Option ℕ) (a : UnlockArgs) (r : StateidRow) (owner : ℕ) (seqids : SeqidState) (status : NfsStatus) → Stays l (unlocked_as s l current a r owner seqids status)
unlocked_stays s l current a r owner seqids status =
    elim (cases_Bool (is_ok status)) [
      | inl e ↦ rw e (done_same s l r owner seqids 14 a.seqid seqids.confirmed None 0 0 false)
      | inr e ↦ rw e (told_same l owner seqids 14 a.seqid (Ended status))
    ]

unlock_owner_stays : (l : NfsLists) (current : Option ℕ) (a : UnlockArgs) (r : StateidRow) (owner : ℕ) (seqids : SeqidState) (last : ℕ) (o : Option Opener) → Stays l (unlock_by_owner l current a r owner seqids last o)
unlock_owner_stays l current a r owner seqids last None = refl
unlock_owner_stays l current a r owner seqids last (Some o) = λ answer t. unlocked_stays t l current a r owner seqids (unlock_status answer)

unlock_to_stays : (l : NfsLists) (current : Option ℕ) (a : UnlockArgs) (r : StateidRow) (owner : ℕ) (seqids : SeqidState) (last : Option ℕ) → Stays l (unlock_to l current a r owner seqids last)
unlock_to_stays l current a r owner seqids None = told_same l owner seqids 14 a.seqid (Ended statuses.Inval)
unlock_to_stays l current a r owner seqids (Some last) = unlock_owner_stays l current a r owner seqids last (opener_by l r.client owner)

unlock_standing_stays : (l : NfsLists) (current : Option ℕ) (a : UnlockArgs) (r : StateidRow) (owner : ℕ) (seqids : SeqidState) (status : Option NfsStatus) → Stays l (unlock_standing l current a r owner seqids status)
unlock_standing_stays l current a r owner seqids (Some status) = told_same l owner seqids 14 a.seqid (Ended status)
unlock_standing_stays l current a r owner seqids None = unlock_to_stays l current a r owner seqids (last_byte a.offset a.len)

pub unlock_stays : (s : CoreState) (l : NfsLists) (current : Option ℕ) (a : UnlockArgs) → Stays l (unlock s l current a)
unfolding unlock
unlock_stays s l current a = (refl, λ t. counts_stays t l current (λ r w v. unlock_standing l current a r w v (standing_fault r v a.stateid.seqid true)) (checked_as kinds.Lock t l current 14 a.seqid a.stateid) (λ r w v. unlock_standing_stays l current a r w v (standing_fault r v a.stateid.seqid true)))

release_of_stays : (s : CoreState) (l : NfsLists) (current : Option ℕ) (owner : List ℕ) (c : Option ClientRow) → Stays l (release_of s l current owner c)
unfolding released
release_of_stays s l current owner None = refl
release_of_stays s l current owner (Some c) =
    elim (cases_Bool (holds_any s c.id owner)) [
      | inl e ↦ rw e refl
      | inr e ↦ rw e (gone (find (is_owner_named c.number kinds.Lock owner) l.owners))
    ]
  where
    gone : (o : Option OwnerRow) → Same l (without_found l o)
    gone None = refl
    gone (Some r) = refl

pub release_stays : (s : CoreState) (l : NfsLists) (current : Option ℕ) (a : OwnerItem) → Stays l (release s l current a)
unfolding release
release_stays s l current a = (refl, λ t. release_of_stays t l current a.owner (client_in t l a.clientid))
