-- Why a LOCK or a LOCKT is told so, and what a LOCKU frees.
use Rattle.std.proofs.Common.{◌≡◌, ℕ, ◌≤◌, Bool, true, false, List, [], Option, Some, None, Ok, refl, sym, ap, subst, ◌∙◌, inl, inr, true≢false}
use Rattle.std.proofs.lemmas.Bool.{cases_Bool}
use Rattle.std.specs.Prelude.{◌&&◌, ◌↔◌, if◌then◌else◌}
use Rattle.xl_base.specs.declared.name.Owner.{Owner}
use Rattle.xl_matrix.specs.Owners.{posix}
use Rattle.xl_matrix.specs.declared.claim.Claim.{Claim}
use Rattle.xl_matrix.specs.declared.claim.Extent.TheVariants.{Bytes}
use Rattle.xl_matrix.specs.declared.claim.What.{What}
use Rattle.xl_matrix.specs.declared.claim.What.TheVariants as whats
use Rattle.xl_nfs.specs.Locks.{LockArgsItem, LockTestArgsItem}
use Rattle.xl_nfs.specs.Outcomes.{is_ok}
use Rattle.xl_nfs.specs.declared.basics.LockType.{LockType}
use Rattle.xl_nfs.specs.declared.locks.UnlockArgs.{UnlockArgs}
use Rattle.xl_nfs.specs.declared.status.NfsStatus.{NfsStatus}
use Rattle.xl_nfs.specs.declared.status.NfsStatus.TheVariants as statuses
use Rattle.xl_nfs_state.specs.State.{NfsLists}
use Rattle.xl_nfs_state.specs.declared.owner.SeqidState.{SeqidState}
use Rattle.xl_nfs_state.specs.declared.stateid.StateidRow.{StateidRow}
use Rattle.xl_spans.specs.Spans.{within, mode_at}
use Rattle.xl_spans.specs.declared.span.Mode.{Mode}
use Rattle.xl_table.proofs.WriteBack.{is_of-true}
use Rattle.xl_table.specs.Held.{is_of, spans_of}
use Rattle.xl_core.proofs.WayAsks.{ask_due, ask_own, ask_test, ask_unlock, ask_way_none, test_stands}
use Rattle.xl_core.proofs.WayDeeds.{then_else}
use Rattle.xl_core.proofs.DeedLaws.{deed_makes}
use Rattle.xl_core.specs.Causes.{IsClaimDue, IsTestDue}
use Rattle.xl_core.specs.Decide.{way, ask}
use Rattle.xl_core.specs.Deeds.{Asks}
use Rattle.xl_core.specs.Good.{IsGood}
use Rattle.xl_core.specs.Places.{ByteOf, held_at, byte_held, answered_at, cleared_at, else_was}
use Rattle.xl_core.specs.Standings.{asker_as, is_smb, refusal}
use Rattle.xl_core.specs.State.{CoreState}
use Rattle.xl_core.specs.declared.ask.Answer.{Answer}
use Rattle.xl_core.specs.declared.ask.Answer.TheVariants as answers
use Rattle.xl_core.specs.declared.ask.Ask.{Ask}
use Rattle.xl_core.specs.declared.ask.Effect.{Effect}
use Rattle.xl_nfs_locks.specs.Denials.{held_lock, lock_told}
use Rattle.xl_nfs_locks.specs.FirstLocks.{joined_by, join_answered, join_to}
use Rattle.xl_nfs_laws.specs.LockLaws.{lock_claim, lock_way, test_claim, unlock_claim, AreFree, IsLockTold, IsTestTold, IsDenial, IsTestDenial}
use Rattle.xl_nfs_locks.specs.Locks.{lock_answered, lock_by_owner}
use Rattle.xl_nfs_locks.specs.Ranges.{is_exclusive, lock_ask, test_ask}
use Rattle.xl_nfs_locks.specs.Tests.{tested_told, test_to}
use Rattle.xl_nfs_locks.specs.Unlocks.{unlock_status, unlocked_as, unlock_by_owner}
use Rattle.xl_nfs_locks.specs.declared.joining.BothOwners.{BothOwners}
use Rattle.xl_nfs_opens.specs.Asks.{unlock_ask}
use Rattle.xl_nfs_opens.specs.Opens.{all_rooms, is_granted}
use Rattle.xl_nfs_opens.specs.Plans.{carried, status_of}
use Rattle.xl_nfs_opens.specs.Seqids.{is_room_for}
use Rattle.xl_nfs_opens.specs.declared.opener.Opener.{Opener}
use Rattle.xl_nfs_opens.specs.declared.told.HeldLock.{HeldLock}
use Rattle.xl_nfs_opens.specs.declared.told.Told.TheVariants.{Ended, State, Denied}
use Rattle.xl_plan.proofs.GraceLaws.{unrecorded_runs}
use Rattle.xl_nfs_laws.proofs.GraceStandings.{against_asked, never_waits}
use Rattle.xl_nfs_laws.proofs.LockOwn.{unlock_fits}
use Rattle.xl_nfs_laws.proofs.LockedByteLaws.{first_told, known_told, refused_stays, same_noted}

-- ---- a LOCK's status

forth : (n : ℕ) (s t : CoreState) (l : NfsLists) (a : Ask) (claim : Claim) (answer : Answer) → a.blocking ≡ false → a.awaits ≡ false → is_smb a.party ≡ false → IsClaimDue n all_rooms s a claim answer → IsLockTold n s a claim (status_of (lock_told t l a.reclaim answer))
forth n s t l a claim (answers.Granted c) hurries rests other due = (refl, due.1, due.2, due.3, due.4)
forth n s t l a claim (answers.Conflict c) hurries rests other due = by a.reclaim refl where
  by : (late : Bool) → a.reclaim ≡ late → IsLockTold n s a claim (status_of (lock_told t l a.reclaim (answers.Conflict c)))
  by true e = subst (λ (late : Bool). IsLockTold n s a claim (status_of (lock_told t l late (answers.Conflict c)))) (sym e) (e, (c, due))
  by false e = subst (λ (late : Bool). IsLockTold n s a claim (status_of (lock_told t l late (answers.Conflict c)))) (sym e) (e, (c, due))
forth n s t l a claim (answers.Queued number) hurries rests other due = absurd (never_waits s a claim hurries rests other due.1)
forth n s t l a claim (answers.NoGrace clock) hurries rests other due = (refl, due.1, due.2)
forth n s t l a claim (answers.Full limit) hurries rests other due = (limit, due)
forth n s t l a claim (answers.Recall c) hurries rests other due = (c, due)
forth n s t l a claim (answers.Grace until) hurries rests other due = (until, due)
forth n s t l a claim answers.NotRecorded hurries rests other due = due
forth n s t l a claim answers.NotHeld hurries rests other due = absurd due
forth n s t l a claim answers.StoreFailed hurries rests other due = due

back : (n : ℕ) (s t : CoreState) (l : NfsLists) (a : Ask) (claim : Claim) (r : Answer) → ((answer : Answer) → IsClaimDue n all_rooms s a claim answer → r ≡ answer) → (status : NfsStatus) → IsLockTold n s a claim status → status_of (lock_told t l a.reclaim r) ≡ status
back n s t l a claim r exact statuses.Ok told = ap (λ (x : Answer). status_of (lock_told t l a.reclaim x)) (exact (answers.Granted claim) told)
back n s t l a claim r exact statuses.Denied told = ap (λ (x : Answer). status_of (lock_told t l a.reclaim x)) (exact (answers.Conflict told.1.0) told.1.1) ∙ ap (λ (late : Bool). status_of (lock_told t l late (answers.Conflict told.1.0))) told.0
back n s t l a claim r exact statuses.ReclaimConflict told = ap (λ (x : Answer). status_of (lock_told t l a.reclaim x)) (exact (answers.Conflict told.1.0) told.1.1) ∙ ap (λ (late : Bool). status_of (lock_told t l late (answers.Conflict told.1.0))) told.0
back n s t l a claim r exact statuses.Delay told = ap (λ (x : Answer). status_of (lock_told t l a.reclaim x)) (exact (answers.Recall told.0) told.1)
back n s t l a claim r exact statuses.Resource told = ap (λ (x : Answer). status_of (lock_told t l a.reclaim x)) (exact (answers.Full told.0) told.1)
back n s t l a claim r exact statuses.Grace told = ap (λ (x : Answer). status_of (lock_told t l a.reclaim x)) (exact (answers.Grace told.0) told.1)
back n s t l a claim r exact statuses.NoGrace told = ap (λ (x : Answer). status_of (lock_told t l a.reclaim x)) (exact (answers.NoGrace s.clock) told)
back n s t l a claim r exact statuses.ReclaimBad told = ap (λ (x : Answer). status_of (lock_told t l a.reclaim x)) (exact answers.NotRecorded told)
back n s t l a claim r exact statuses.ServerFault told = ap (λ (x : Answer). status_of (lock_told t l a.reclaim x)) (exact answers.StoreFailed told)
back n s t l a claim r exact _ told = absurd told

exactly : (n : ℕ) (s t : CoreState) (l : NfsLists) (o : Opener) (file : ℕ) (kind : LockType) (reclaim : Bool) (first last : ℕ) (status : NfsStatus) → (status_of (lock_told t l reclaim (ask n all_rooms s (lock_ask o file kind reclaim first last)).0) ≡ status) ↔ IsLockTold n (lock_way s o file kind reclaim first last) (lock_ask o file kind reclaim first last) (lock_claim s o file kind first last) status
exactly n s t l o file kind reclaim first last status =
    let a = lock_ask o file kind reclaim first last in
    let claim = lock_claim s o file kind first last in
    let what = whats.Range (Bytes first last) (is_exclusive kind) in
    let w = lock_way s o file kind reclaim first last in
    let answer = (ask n all_rooms s a).0 in (
      λ e. subst (λ (x : NfsStatus). IsLockTold n w a claim x) e (forth n w t l a claim answer refl refl refl ((ask_due n all_rooms s a what answer refl).0 refl)),
      λ told. back n w t l a claim answer (λ x due. (ask_due n all_rooms s a what x refl).1 due) status told,
    )

by_status : {X : Type 0} (told is status : NfsStatus) → told ≡ is → ((is ≡ status) ↔ X) → ((told ≡ status) ↔ X)
by_status told is status e exact = (λ d. exact.0 (sym e ∙ d), λ x. e ∙ exact.1 x)

pub known_exactly : (n : ℕ) (s : CoreState) (l : NfsLists) (current : Option ℕ) (a : LockArgsItem) (r : StateidRow) (owner : ℕ) (seqids : SeqidState) (seqid last : ℕ) (o : Opener) (status : NfsStatus)
    → (status_of (carried n s l (lock_by_owner l current a r owner seqids seqid last (Some o))).0 ≡ status) ↔ IsLockTold n (lock_way s o r.file a.kind a.reclaim a.offset last) (lock_ask o r.file a.kind a.reclaim a.offset last) (lock_claim s o r.file a.kind a.offset last) status
known_exactly n s l current a r owner seqids seqid last o status =
    let x = ask n all_rooms s (lock_ask o r.file a.kind a.reclaim a.offset last) in
    by_status _ _ status (known_told n x.2 l current r owner seqids seqid a.reclaim x.0) (exactly n s x.2 l o r.file a.kind a.reclaim a.offset last status)

pub first_exactly : (n : ℕ) (s : CoreState) (l : NfsLists) (current : Option ℕ) (a : LockArgsItem) (b : BothOwners) (o : Opener) (r : StateidRow) (q : Option StateidRow) (last : ℕ) (status : NfsStatus) → is_room_for o l ≡ true
    → (status_of (carried n s l (join_to l current a b o r q (Ok last))).0 ≡ status) ↔ IsLockTold n (lock_way s o r.file a.kind a.reclaim a.offset last) (lock_ask o r.file a.kind a.reclaim a.offset last) (lock_claim s o r.file a.kind a.offset last) status
first_exactly n s l current a b o r q last status room =
    let x = ask n all_rooms s (lock_ask o r.file a.kind a.reclaim a.offset last) in
    rw room (by_status _ _ status (first_told n x.2 l current b o r q a.reclaim x.0) (exactly n s x.2 l o r.file a.kind a.reclaim a.offset last status))

pub first_full : (n : ℕ) (s : CoreState) (l : NfsLists) (current : Option ℕ) (a : LockArgsItem) (b : BothOwners) (o : Opener) (r : StateidRow) (q : Option StateidRow) (last : ℕ) → is_room_for o l ≡ false → carried n s l (join_to l current a b o r q (Ok last)) ≡ (Ended statuses.Resource, current, [], l, s)
first_full n s l current a b o r q last full = rw full refl

-- ---- what DENIED tells

told_denied : (n : ℕ) (s t : CoreState) (l : NfsLists) (a : Ask) (claim : Claim) (reclaim : Bool) (answer : Answer) (h : HeldLock) → is_smb a.party ≡ false → a.reclaim ≡ reclaim → IsClaimDue n all_rooms s a claim answer → t ≡ s → lock_told t l reclaim answer ≡ Denied h → IsDenial s l claim h
told_denied n s t l a claim false (answers.Conflict c) h other plain due stays e =
    let same : held_lock t l c ≡ h = cc in
    let against = against_asked s a claim c other plain due in
    record { by = c; barring = against.2; named = against.1; told = sym same ∙ ap (λ (u : CoreState). held_lock u l c) stays }
told_denied n s t l a claim true (answers.Conflict c) h other plain due stays e = absurd cc
told_denied n s t l a claim reclaim (answers.Granted c) h other plain due stays e = absurd cc
told_denied n s t l a claim reclaim (answers.Queued id) h other plain due stays e = absurd cc
told_denied n s t l a claim reclaim (answers.Recall c) h other plain due stays e = absurd cc
told_denied n s t l a claim reclaim (answers.Grace until) h other plain due stays e = absurd cc
told_denied n s t l a claim reclaim (answers.NoGrace clock) h other plain due stays e = absurd cc
told_denied n s t l a claim reclaim answers.NotRecorded h other plain due stays e = absurd cc
told_denied n s t l a claim reclaim (answers.Full limit) h other plain due stays e = absurd cc
told_denied n s t l a claim reclaim answers.NotHeld h other plain due stays e = absurd cc
told_denied n s t l a claim reclaim answers.StoreFailed h other plain due stays e = absurd cc

not_failed : (t : CoreState) (l : NfsLists) (reclaim : Bool) (answer : Answer) (h : HeldLock) → answer ≡ answers.StoreFailed → lock_told t l reclaim answer ≡ Denied h → ⊥
not_failed t l reclaim answer h failed e = let is = sym (ap (λ (x : Answer). lock_told t l reclaim x) failed) ∙ e in cc

asked_denied : (n : ℕ) (s : CoreState) (l : NfsLists) (o : Opener) (file : ℕ) (kind : LockType) (reclaim : Bool) (first last : ℕ) (h : HeldLock) → IsGood s → first ≤ last → is_granted (ask n all_rooms s (lock_ask o file kind reclaim first last)).0 ≡ false
    → lock_told (ask n all_rooms s (lock_ask o file kind reclaim first last)).2 l reclaim (ask n all_rooms s (lock_ask o file kind reclaim first last)).0 ≡ Denied h → IsDenial (lock_way s o file kind reclaim first last) l (lock_claim s o file kind first last) h
asked_denied n s l o file kind reclaim first last h good le fails e =
    let a = lock_ask o file kind reclaim first last in
    let x = ask n all_rooms s a in
    told_denied n (lock_way s o file kind reclaim first last) x.2 l a (lock_claim s o file kind first last) reclaim x.0 h refl refl ((ask_due n all_rooms s a (whats.Range (Bytes first last) (is_exclusive kind)) x.0 refl).0 refl) (refused_stays n s o file kind reclaim first last good le fails (λ failed. not_failed x.2 l reclaim x.0 h failed e)) e

known_is : (n : ℕ) (t : CoreState) (l : NfsLists) (current : Option ℕ) (r : StateidRow) (owner : ℕ) (seqids : SeqidState) (seqid : ℕ) (reclaim : Bool) (answer : Answer) (h : HeldLock) → (carried n t l (lock_answered l current r owner seqids seqid reclaim answer t)).0 ≡ Denied h → (is_granted answer ≡ false) × (lock_told t l reclaim answer ≡ Denied h)
known_is n t l current r owner seqids seqid reclaim answer h e =
    elim (cases_Bool (is_granted answer)) [
      | inl grants ↦ (let fails : State _ ≡ Denied h = rw grants at e in absurd cc)
      | inr fails ↦ (fails, rw fails at e)
    ]

pub known_denied : (n : ℕ) (s : CoreState) (l : NfsLists) (current : Option ℕ) (a : LockArgsItem) (r : StateidRow) (owner : ℕ) (seqids : SeqidState) (seqid last : ℕ) (o : Opener) (h : HeldLock) → IsGood s → a.offset ≤ last → (carried n s l (lock_by_owner l current a r owner seqids seqid last (Some o))).0 ≡ Denied h → IsDenial (lock_way s o r.file a.kind a.reclaim a.offset last) l (lock_claim s o r.file a.kind a.offset last) h
known_denied n s l current a r owner seqids seqid last o h good le e =
    let x = ask n all_rooms s (lock_ask o r.file a.kind a.reclaim a.offset last) in
    let is = known_is n x.2 l current r owner seqids seqid a.reclaim x.0 h e in
    asked_denied n s l o r.file a.kind a.reclaim a.offset last h good le is.0 is.1

joined_no : (n : ℕ) (t : CoreState) (l : NfsLists) (current : Option ℕ) (b : BothOwners) (o : Opener) (r : StateidRow) (q : Option StateidRow) (h : HeldLock) → (carried n t l (joined_by t l current b o r q)).0 ≡ Denied h → ⊥
joined_no n t l current b o r None h e = cc
joined_no n t l current b o r (Some q) h e = cc

first_is : (n : ℕ) (t : CoreState) (l : NfsLists) (current : Option ℕ) (b : BothOwners) (o : Opener) (r : StateidRow) (q : Option StateidRow) (reclaim : Bool) (answer : Answer) (h : HeldLock) → (carried n t l (join_answered l current b o r q reclaim answer t)).0 ≡ Denied h → (is_granted answer ≡ false) × (lock_told t l reclaim answer ≡ Denied h)
first_is n t l current b o r q reclaim answer h e =
    elim (cases_Bool (is_granted answer)) [
      | inl grants ↦ absurd (joined_no n t l current b o r q h (rw grants at e))
      | inr fails ↦ (fails, rw fails at e)
    ]

pub first_denied : (n : ℕ) (s : CoreState) (l : NfsLists) (current : Option ℕ) (a : LockArgsItem) (b : BothOwners) (o : Opener) (r : StateidRow) (q : Option StateidRow) (last : ℕ) (h : HeldLock) → IsGood s → a.offset ≤ last → is_room_for o l ≡ true → (carried n s l (join_to l current a b o r q (Ok last))).0 ≡ Denied h → IsDenial (lock_way s o r.file a.kind a.reclaim a.offset last) l (lock_claim s o r.file a.kind a.offset last) h
first_denied n s l current a b o r q last h good le room e =
    let x = ask n all_rooms s (lock_ask o r.file a.kind a.reclaim a.offset last) in
    let is = first_is n x.2 l current b o r q a.reclaim x.0 h (rw room at e) in
    asked_denied n s l o r.file a.kind a.reclaim a.offset last h good le is.0 is.1

-- ---- LOCKT

test_stays : (n : ℕ) (s : CoreState) (o : Opener) (file : ℕ) (kind : LockType) (first last : ℕ) → (ask n all_rooms s (test_ask o file kind first last)).2 ≡ s
test_stays n s o file kind first last = test_stands n all_rooms s (test_ask o file kind first last) (Bytes first last) (is_exclusive kind) refl

pub test_changes_nothing : (n : ℕ) (s : CoreState) (l : NfsLists) (current : Option ℕ) (a : LockTestArgsItem) (file : ℕ) (o : Opener) (last : Option ℕ) → ((carried n s l (test_to l current a file o last)).3 ≡ l) × ((carried n s l (test_to l current a file o last)).4 ≡ s)
test_changes_nothing n s l current a file o None = (refl, refl)
test_changes_nothing n s l current a file o (Some last) = (refl, test_stays n s o file a.kind a.offset last)

test_forth : (s t : CoreState) (l : NfsLists) (a : Ask) (claim : Claim) (answer : Answer) → a.reclaim ≡ false → IsTestDue s a claim answer → IsTestTold s a claim (status_of (tested_told t l answer))
test_forth s t l a claim (answers.Granted c) early due = (refl, due.1, due.2)
test_forth s t l a claim (answers.Conflict c) early due = (c, due)
test_forth s t l a claim (answers.NoGrace clock) early due = absurd (true≢false (sym due.2 ∙ early))
test_forth s t l a claim (answers.Queued number) early due = absurd due
test_forth s t l a claim (answers.Full limit) early due = absurd due
test_forth s t l a claim (answers.Recall c) early due = absurd due
test_forth s t l a claim (answers.Grace until) early due = (until, due)
test_forth s t l a claim answers.NotRecorded early due = absurd (true≢false (sym (unrecorded_runs s (asker_as a) false a.reclaim (ap refusal due)).1 ∙ early))
test_forth s t l a claim answers.NotHeld early due = absurd due
test_forth s t l a claim answers.StoreFailed early due = absurd due

test_back : (s t : CoreState) (l : NfsLists) (a : Ask) (claim : Claim) (r : Answer) → ((answer : Answer) → IsTestDue s a claim answer → r ≡ answer) → (status : NfsStatus) → IsTestTold s a claim status → status_of (tested_told t l r) ≡ status
test_back s t l a claim r exact statuses.Ok told = ap (λ (x : Answer). status_of (tested_told t l x)) (exact (answers.Granted claim) told)
test_back s t l a claim r exact statuses.Denied told = ap (λ (x : Answer). status_of (tested_told t l x)) (exact (answers.Conflict told.0) told.1)
test_back s t l a claim r exact statuses.Grace told = ap (λ (x : Answer). status_of (tested_told t l x)) (exact (answers.Grace told.0) told.1)
test_back s t l a claim r exact _ told = absurd told

pub test_exactly : (n : ℕ) (s : CoreState) (l : NfsLists) (current : Option ℕ) (a : LockTestArgsItem) (file : ℕ) (o : Opener) (last : ℕ) (status : NfsStatus) → (status_of (carried n s l (test_to l current a file o (Some last))).0 ≡ status) ↔ IsTestTold s (test_ask o file a.kind a.offset last) (test_claim s o file a.kind a.offset last) status
test_exactly n s l current a file o last status =
    let q = test_ask o file a.kind a.offset last in
    let claim = test_claim s o file a.kind a.offset last in
    let x = ask n all_rooms s q in (
      λ e. subst (λ (y : NfsStatus). IsTestTold s q claim y) e (test_forth s x.2 l q claim x.0 refl ((ask_test n all_rooms s q (Bytes a.offset last) (is_exclusive a.kind) x.0 refl).0 refl)),
      λ told. test_back s x.2 l q claim x.0 (λ y due. (ask_test n all_rooms s q (Bytes a.offset last) (is_exclusive a.kind) y refl).1 due) status told,
    )

tested_denied : (s t : CoreState) (l : NfsLists) (a : Ask) (claim : Claim) (answer : Answer) (h : HeldLock) → IsTestDue s a claim answer → t ≡ s → tested_told t l answer ≡ Denied h → IsTestDenial s l claim h
tested_denied s t l a claim (answers.Conflict c) h due stays e =
    let same : held_lock t l c ≡ h = cc in
    record { by = c; is_held = due.2; against = due.3; least = due.1; told = sym same ∙ ap (λ (u : CoreState). held_lock u l c) stays }
tested_denied s t l a claim (answers.Granted c) h due stays e = absurd cc
tested_denied s t l a claim (answers.NoGrace clock) h due stays e = absurd cc
tested_denied s t l a claim (answers.Queued number) h due stays e = absurd due
tested_denied s t l a claim (answers.Full limit) h due stays e = absurd due
tested_denied s t l a claim (answers.Recall c) h due stays e = absurd due
tested_denied s t l a claim (answers.Grace until) h due stays e = absurd cc
tested_denied s t l a claim answers.NotRecorded h due stays e = absurd cc
tested_denied s t l a claim answers.NotHeld h due stays e = absurd due
tested_denied s t l a claim answers.StoreFailed h due stays e = absurd due

pub test_denied : (n : ℕ) (s : CoreState) (l : NfsLists) (current : Option ℕ) (a : LockTestArgsItem) (file : ℕ) (o : Opener) (last : ℕ) (h : HeldLock) → (carried n s l (test_to l current a file o (Some last))).0 ≡ Denied h → IsTestDenial s l (test_claim s o file a.kind a.offset last) h
test_denied n s l current a file o last h e =
    let q = test_ask o file a.kind a.offset last in
    let x = ask n all_rooms s q in
    tested_denied s x.2 l q (test_claim s o file a.kind a.offset last) x.0 h ((ask_test n all_rooms s q (Bytes a.offset last) (is_exclusive a.kind) x.0 refl).0 refl) (test_stays n s o file a.kind a.offset last) e

-- ---- LOCKU

cleared_byte : (s : CoreState) (o : Opener) (file first last at : ℕ) (owner : Owner) (byte : ℕ) (had : List What) → else_was (cleared_at (unlock_claim s o file first last) (ByteOf at owner byte)) had ≡ (if is_of at owner (unlock_claim s o file first last) && within first last byte then [] else had)
cleared_byte s o file first last at owner byte had =
    let c = unlock_claim s o file first last in
    elim (cases_Bool (is_of at owner c)) [
      | inr e ↦ rw e refl
      | inl e ↦
          let name : posix owner ≡ true = sym (ap posix (is_of-true at owner c e).1) in
          rw e (rw name (elim (cases_Bool (within first last byte)) [
            | inl b ↦ rw b refl
            | inr b ↦ rw b refl
          ]))
    ]

-- bytes that the owner hasn't are free before
none_byte : (s : CoreState) (o : Opener) (file first last at : ℕ) (owner : Owner) (byte : ℕ) → ((x : ℕ) → within first last x ≡ true → mode_at (spans_of file (unlock_claim s o file first last).owner s.claims) x ≡ None) → held_at s (ByteOf at owner byte) ≡ (if is_of at owner (unlock_claim s o file first last) && within first last byte then [] else held_at s (ByteOf at owner byte))
none_byte s o file first last at owner byte none =
    let c = unlock_claim s o file first last in
    elim (cases_Bool (is_of at owner c)) [
      | inr e ↦ rw e refl
      | inl e ↦ (let same = is_of-true at owner c e in rw e (elim (cases_Bool (within first last byte)) [
        | inl b ↦ rw b (sym (λ i. byte_held (same.1 i) byte (mode_at (spans_of (same.0 i) (same.1 i) s.claims) byte)) ∙ ap (λ (m : Option Mode). byte_held c.owner byte m) (none byte b))
        | inr b ↦ rw b refl
      ]))
    ]

-- an unlock that isn't granted changes nothing: it doesn't wait
unlock_stays : (n : ℕ) (s : CoreState) (o : Opener) (file first last : ℕ) → IsGood s → first ≤ last → (answer : Answer) → (ask n all_rooms s (unlock_ask o file first last)).0 ≡ answer → ((c : Claim) → answer ≡ answers.Granted c → ⊥) → (ask n all_rooms s (unlock_ask o file first last)).2 ≡ s
unlock_stays n s o file first last good le answer is fails =
    let a = unlock_ask o file first last in
    (ask_own n all_rooms s a good (unlock_fits o file first last le).party).refused
    (λ c e. fails c (sym is ∙ e))
    (λ number e. (ask_unlock n all_rooms s a first last (answers.Queued number) refl (unlock_fits o file first last le).party refl le good).0 e)
    ∙ same_noted (way all_rooms s a).1 a (ask n all_rooms s a).0 (λ c e. fails c (sym is ∙ e)) (λ e. (ask_unlock n all_rooms s a first last answers.StoreFailed refl (unlock_fits o file first last le).party refl le good).0 e)
    ∙ ap (λ (w : List Effect × CoreState). w.1) (ask_way_none all_rooms s a refl)

pub freed : (n : ℕ) (s : CoreState) (o : Opener) (file first last : ℕ) → IsGood s → first ≤ last → (answer : Answer) → (ask n all_rooms s (unlock_ask o file first last)).0 ≡ answer → is_ok (unlock_status answer) ≡ true → AreFree o file first last s (ask n all_rooms s (unlock_ask o file first last)).2
freed n s o file first last good le (answers.Granted c) e ok = λ at owner byte.
    let a = unlock_ask o file first last in
    let same : c ≡ unlock_claim s o file first last = ((ask_unlock n all_rooms s a first last (answers.Granted c) refl (unlock_fits o file first last le).party refl le good).0 e).0 in
    let held = (way all_rooms s a).1.claims in
    deed_makes n s (Asks all_rooms a) (ByteOf at owner byte) good (unlock_fits o file first last le)
    ∙ then_else None (answered_at held a.act (ask n all_rooms s a).0 (ByteOf at owner byte)) (held_at s (ByteOf at owner byte))
    ∙ ap (λ (x : Answer). else_was (answered_at held a.act x (ByteOf at owner byte)) (held_at s (ByteOf at owner byte))) e
    ∙ ap (λ (x : Claim). else_was (cleared_at x (ByteOf at owner byte)) (held_at s (ByteOf at owner byte))) same
    ∙ cleared_byte s o file first last at owner byte (held_at s (ByteOf at owner byte))
freed n s o file first last good le answers.NotHeld e ok =
    let a = unlock_ask o file first last in
    let none = (ask_unlock n all_rooms s a first last answers.NotHeld refl (unlock_fits o file first last le).party refl le good).0 e in
    subst (λ (t : CoreState). AreFree o file first last s t) (sym (unlock_stays n s o file first last good le answers.NotHeld e (λ c d. cc)))
    (λ at owner byte. none_byte s o file first last at owner byte none)
freed n s o file first last good le (answers.Conflict c) e ok = absurd (true≢false (sym ok))
freed n s o file first last good le (answers.Queued id) e ok = absurd (true≢false (sym ok))
freed n s o file first last good le (answers.Recall c) e ok = absurd (true≢false (sym ok))
freed n s o file first last good le (answers.Grace until) e ok = absurd (true≢false (sym ok))
freed n s o file first last good le (answers.NoGrace clock) e ok = absurd (true≢false (sym ok))
freed n s o file first last good le answers.NotRecorded e ok = absurd (true≢false (sym ok))
freed n s o file first last good le (answers.Full limit) e ok = absurd (true≢false (sym ok))
freed n s o file first last good le answers.StoreFailed e ok = absurd (true≢false (sym ok))

unlocked_ok : (n : ℕ) (t : CoreState) (l : NfsLists) (current : Option ℕ) (a : UnlockArgs) (r : StateidRow) (owner : ℕ) (seqids : SeqidState) (status : NfsStatus) → (is_ok (status_of (carried n t l (unlocked_as t l current a r owner seqids status)).0) ≡ is_ok status) × ((carried n t l (unlocked_as t l current a r owner seqids status)).4 ≡ t)
unlocked_ok n t l current a r owner seqids status =
    elim (cases_Bool (is_ok status)) [
      | inl e ↦ rw e (refl, refl)
      | inr e ↦ rw e (e, refl)
    ]

pub unlock_frees : (n : ℕ) (s : CoreState) (l : NfsLists) (current : Option ℕ) (a : UnlockArgs) (r : StateidRow) (owner : ℕ) (seqids : SeqidState) (last : ℕ) (o : Opener) → IsGood s → a.offset ≤ last → is_ok (status_of (carried n s l (unlock_by_owner l current a r owner seqids last (Some o))).0) ≡ true
    → AreFree o r.file a.offset last s (carried n s l (unlock_by_owner l current a r owner seqids last (Some o))).4
unlock_frees n s l current a r owner seqids last o good le ok =
    let x = ask n all_rooms s (unlock_ask o r.file a.offset last) in
    let by = unlocked_ok n x.2 l current a r owner seqids (unlock_status x.0) in
    subst (λ (t : CoreState). AreFree o r.file a.offset last s t) (sym by.1) (freed n s o r.file a.offset last good le x.0 refl (sym by.0 ∙ ok))

pub unlock_refused : (n : ℕ) (s : CoreState) (l : NfsLists) (current : Option ℕ) (a : UnlockArgs) (r : StateidRow) (owner : ℕ) (seqids : SeqidState) (last : ℕ) (o : Opener) → IsGood s → a.offset ≤ last → is_ok (status_of (carried n s l (unlock_by_owner l current a r owner seqids last (Some o))).0) ≡ false
    → (carried n s l (unlock_by_owner l current a r owner seqids last (Some o))).4 ≡ s
unlock_refused n s l current a r owner seqids last o good le fails =
    let x = ask n all_rooms s (unlock_ask o r.file a.offset last) in
    let by = unlocked_ok n x.2 l current a r owner seqids (unlock_status x.0) in
    let not_ok : is_ok (unlock_status x.0) ≡ false = sym by.0 ∙ fails in
    by.1 ∙ unlock_stays n s o r.file a.offset last good le x.0 refl (λ c e. true≢false (sym (ap (λ (y : Answer). is_ok (unlock_status y)) e) ∙ not_ok))
