-- Each status of NLM has its cause, exactly.
use Rattle.std.proofs.Common.{◌≡◌, ℕ, ◌+◌, ◌≤◌, Bool, true, false, inl, inr, Option, Some, None, refl, sym, ap, subst, ◌↔◌}
use Rattle.std.proofs.lemmas.Bool.{both_ways}
use Rattle.xl_matrix.specs.declared.claim.Claim.{Claim}
use Rattle.xl_matrix.specs.declared.claim.Extent.TheVariants.{Bytes}
use Rattle.xl_matrix.specs.declared.claim.What.{What}
use Rattle.xl_matrix.specs.declared.claim.What.TheVariants as whats
use Rattle.xl_nlm.specs.Items.{LockItem, TestArgsItem, LockArgsItem, UnlockArgsItem, CallItem, Null, Test, Lock, Cancel, Unlock, Granted, Share, Unshare, NmLock, FreeAll}
use Rattle.xl_nlm.specs.declared.item.NlmStatus.{NlmStatus}
use Rattle.xl_nlm.specs.declared.item.NlmStatus.TheVariants as stats
use Rattle.xl_table.specs.Relock.{most_claims}
use Rattle.xl_wait.specs.declared.waiter.Rooms.{Rooms}
use Rattle.xl_core.proofs.WayAsks.{ask_due, ask_test, ask_unlock}
use Rattle.xl_core.specs.Askers.{asked_what, asked_claim, known_claim}
use Rattle.xl_core.specs.Causes.{IsClaimDue, IsTestDue, IsUnlockDue}
use Rattle.xl_core.specs.Decide.{way, ask}
use Rattle.xl_core.specs.Deeds.{Cancels, GivesBack}
use Rattle.xl_core.specs.Good.{IsGood}
use Rattle.xl_core.specs.Standings.{asker_as, refusal}
use Rattle.xl_core.specs.State.{CoreState}
use Rattle.xl_core.specs.declared.ask.Answer.{Answer}
use Rattle.xl_core.specs.declared.ask.Answer.TheVariants as answers
use Rattle.xl_core.specs.declared.ask.Ask.{Ask}
use Rattle.xl_plan.proofs.GraceLaws.{unrecorded_runs}
use Rattle.xl_plan.specs.Plans.{carried}
use Rattle.xl_front_nlm.proofs.AimLaws.{last_real}
use Rattle.xl_front_nlm.proofs.AskLaws.{own_client}
use Rattle.xl_front_nlm.specs.Aims.{exported, last_of, aimed, aimed_at, aimed_in}
use Rattle.xl_front_nlm.specs.Asks.{test_ask, lock_ask, unlock_ask, rights_of, share_ask}
use Rattle.xl_front_nlm.specs.Hosts.{rooms, host_rows}
use Rattle.xl_front_nlm.specs.Results.{answer_status, status_of, IsTestAnswer, IsTestOutcome, IsOutcomeOf}
use Rattle.xl_front_nlm.specs.Serving.{CallPlan, at_bytes, on_file, if_found, lock_plan, planned, served}
use Rattle.xl_front_nlm.specs.Standing.{waiter_for, does_wait, share_held}
use Rattle.xl_front_nlm.specs.State.{FrontState}
use Rattle.xl_front_nlm.specs.Statuses.{status_told, IsClaimTold, IsAskTold, IsTestTold, IsUnlockTold, IsLastTold, IsRangeTold, IsFileTold, IsLockTold, IsCancelTold, lock_claim, IsStatusDue}
use Rattle.xl_front_nlm.specs.declared.aim.Aim.{Aim}
use Rattle.xl_front_nlm.specs.declared.outcome.Outcome.TheVariants.{NotWaiting, Ended}

-- ---- a lock or a share

claim_forth : (n : ℕ) (left : Rooms) (s : CoreState) (a : Ask) (claim : Claim) (answer : Answer) → IsClaimDue n left s a claim answer → IsClaimTold n left s a claim (answer_status answer)
claim_forth n left s a claim (answers.Granted c) due = (refl, due.1, due.2, due.3, due.4)
claim_forth n left s a claim (answers.Conflict c) due = inl (c, due)
claim_forth n left s a claim (answers.Queued number) due = (refl, due.1, due.2)
claim_forth n left s a claim (answers.Recall c) due = inr (inl (c, due))
claim_forth n left s a claim (answers.Grace until) due = inl (until, due)
claim_forth n left s a claim (answers.NoGrace clock) due = inr (refl, due.1, due.2)
claim_forth n left s a claim answers.NotRecorded due = inr (inr due)
claim_forth n left s a claim (answers.Full limit) due = (limit, due)
claim_forth n left s a claim answers.NotHeld due = absurd due
claim_forth n left s a claim answers.StoreFailed due = due

claim_back : (n : ℕ) (left : Rooms) (s : CoreState) (a : Ask) (claim : Claim) (r : Answer) → ((answer : Answer) → IsClaimDue n left s a claim answer → r ≡ answer) → (status : NlmStatus) → IsClaimTold n left s a claim status → answer_status r ≡ status
claim_back n left s a claim r exact stats.Granted told = ap answer_status (exact (answers.Granted claim) told)
claim_back n left s a claim r exact stats.Denied (inl told) = ap answer_status (exact (answers.Conflict told.0) told.1)
claim_back n left s a claim r exact stats.Denied (inr (inl told)) = ap answer_status (exact (answers.Recall told.0) told.1)
claim_back n left s a claim r exact stats.Denied (inr (inr told)) = ap answer_status (exact answers.NotRecorded told)
claim_back n left s a claim r exact stats.DeniedNolocks told = ap answer_status (exact (answers.Full told.0) told.1)
claim_back n left s a claim r exact stats.Blocked told = ap answer_status (exact (answers.Queued (s.counter + 1)) told)
claim_back n left s a claim r exact stats.DeniedGracePeriod (inl told) = ap answer_status (exact (answers.Grace told.0) told.1)
claim_back n left s a claim r exact stats.DeniedGracePeriod (inr told) = ap answer_status (exact (answers.NoGrace s.clock) told)
claim_back n left s a claim r exact stats.Failed told = ap answer_status (exact answers.StoreFailed told)
claim_back n left s a claim r exact stats.Deadlck told = absurd told
claim_back n left s a claim r exact stats.Rofs told = absurd told
claim_back n left s a claim r exact stats.StaleFh told = absurd told
claim_back n left s a claim r exact stats.Fbig told = absurd told

-- this is told exactly where that is due
abbrev Exactly : NlmStatus → (NlmStatus → Type 0) → Type 0
Exactly told due = (status : NlmStatus) → (told ≡ status) ↔ due status

claim_exactly : (n : ℕ) (left : Rooms) (s : CoreState) (a : Ask) (what : What) → asked_what a.act ≡ Some what → Exactly (answer_status (ask n left s a).0) (IsAskTold n left s a (asked_claim a what s.names))
claim_exactly n left s a what act = λ status.
    let claim = asked_claim a what s.names in
    let t = (way left s a).1 in (
      λ e. subst (λ (x : NlmStatus). IsClaimTold n left t a claim x) e (claim_forth n left t a claim (ask n left s a).0 ((ask_due n left s a what (ask n left s a).0 act).0 refl)),
      λ told. claim_back n left t a claim (ask n left s a).0 (λ answer due. (ask_due n left s a what answer act).1 due) status told,
    )

-- ---- a test

test_forth : (s : CoreState) (a : Ask) (claim : Claim) (answer : Answer) → a.reclaim ≡ false → IsTestDue s a claim answer → IsTestTold s a claim (answer_status answer)
test_forth s a claim (answers.Granted c) timely due = (refl, due.1, due.2)
test_forth s a claim (answers.Conflict c) timely due = (c, due)
test_forth s a claim (answers.NoGrace clock) timely due = absurd (both_ways a.reclaim timely due.2)
test_forth s a claim (answers.Queued number) timely due = absurd due
test_forth s a claim (answers.Full limit) timely due = absurd due
test_forth s a claim (answers.Recall c) timely due = absurd due
test_forth s a claim (answers.Grace until) timely due = (until, due)
test_forth s a claim answers.NotRecorded timely due = absurd (both_ways a.reclaim timely (unrecorded_runs s (asker_as a) false a.reclaim (ap refusal due)).1)
test_forth s a claim answers.NotHeld timely due = absurd due
test_forth s a claim answers.StoreFailed timely due = absurd due

test_back : (s : CoreState) (a : Ask) (claim : Claim) (r : Answer) → ((answer : Answer) → IsTestDue s a claim answer → r ≡ answer) → (status : NlmStatus) → IsTestTold s a claim status → answer_status r ≡ status
test_back s a claim r exact stats.Granted told = ap answer_status (exact (answers.Granted claim) told)
test_back s a claim r exact stats.Denied told = ap answer_status (exact (answers.Conflict told.0) told.1)
test_back s a claim r exact stats.DeniedNolocks told = absurd told
test_back s a claim r exact stats.Blocked told = absurd told
test_back s a claim r exact stats.DeniedGracePeriod told = ap answer_status (exact (answers.Grace told.0) told.1)
test_back s a claim r exact stats.Deadlck told = absurd told
test_back s a claim r exact stats.Rofs told = absurd told
test_back s a claim r exact stats.StaleFh told = absurd told
test_back s a claim r exact stats.Fbig told = absurd told
test_back s a claim r exact stats.Failed told = absurd told

test_exactly : (n : ℕ) (left : Rooms) (s : CoreState) (a : TestArgsItem) (at : Aim) → Exactly (answer_status (ask n left s (test_ask a at)).0) (IsTestTold s (test_ask a at) (known_claim (test_ask a at) (Bytes at.first at.last) a.exclusive s.names))
test_exactly n left s a at = λ status.
    let request = test_ask a at in
    let claim = known_claim request (Bytes at.first at.last) a.exclusive s.names in (
      λ e. subst (λ (x : NlmStatus). IsTestTold s request claim x) e (test_forth s request claim (ask n left s request).0 refl ((ask_test n left s request (Bytes at.first at.last) a.exclusive (ask n left s request).0 refl).0 refl)),
      λ told. test_back s request claim (ask n left s request).0 (λ answer due. (ask_test n left s request (Bytes at.first at.last) a.exclusive answer refl).1 due) status told,
    )

-- ---- an unlock

unlock_forth : (s : CoreState) (claim : Claim) (first last : ℕ) (answer : Answer) → IsUnlockDue s claim first last answer → IsUnlockTold s claim first last (answer_status answer)
unlock_forth s claim first last (answers.Granted c) due = inl (refl, due.1, due.2)
unlock_forth s claim first last answers.NotHeld due = inr due
unlock_forth s claim first last (answers.Full limit) due = (refl, due.1, due.2)
unlock_forth s claim first last (answers.Conflict c) due = absurd due
unlock_forth s claim first last (answers.Queued number) due = absurd due
unlock_forth s claim first last (answers.NoGrace clock) due = absurd due
unlock_forth s claim first last (answers.Recall c) due = absurd due
unlock_forth s claim first last (answers.Grace until) due = absurd due
unlock_forth s claim first last answers.NotRecorded due = absurd due
unlock_forth s claim first last answers.StoreFailed due = absurd due

unlock_back : (s : CoreState) (claim : Claim) (first last : ℕ) (r : Answer) → ((answer : Answer) → IsUnlockDue s claim first last answer → r ≡ answer) → (status : NlmStatus) → IsUnlockTold s claim first last status → answer_status r ≡ status
unlock_back s claim first last r exact stats.Granted (inl due) = ap answer_status (exact (answers.Granted claim) due)
unlock_back s claim first last r exact stats.Granted (inr due) = ap answer_status (exact answers.NotHeld due)
unlock_back s claim first last r exact stats.DeniedNolocks told = ap answer_status (exact (answers.Full most_claims) told)
unlock_back s claim first last r exact stats.Denied told = absurd told
unlock_back s claim first last r exact stats.Blocked told = absurd told
unlock_back s claim first last r exact stats.DeniedGracePeriod told = absurd told
unlock_back s claim first last r exact stats.Deadlck told = absurd told
unlock_back s claim first last r exact stats.Rofs told = absurd told
unlock_back s claim first last r exact stats.StaleFh told = absurd told
unlock_back s claim first last r exact stats.Fbig told = absurd told
unlock_back s claim first last r exact stats.Failed told = absurd told

unlock_exactly : (n : ℕ) (left : Rooms) (s : CoreState) (a : UnlockArgsItem) (at : Aim) → IsGood s → at.first ≤ at.last → Exactly (answer_status (ask n left s (unlock_ask a at)).0) (IsUnlockTold s (known_claim (unlock_ask a at) (Bytes at.first at.last) false s.names) at.first at.last)
unlock_exactly n left s a at good ends = λ status.
    let request = unlock_ask a at in
    let claim = known_claim request (Bytes at.first at.last) false s.names in
    let client = own_client a.lock.caller_name in (
      λ e. subst (λ (x : NlmStatus). IsUnlockTold s claim at.first at.last x) e (unlock_forth s claim at.first at.last (ask n left s request).0 ((ask_unlock n left s request at.first at.last (ask n left s request).0 refl client refl ends good).0 refl)),
      λ told. unlock_back s claim at.first at.last (ask n left s request).0 (λ answer due. (ask_unlock n left s request at.first at.last answer refl client refl ends good).1 due) status told,
    )

-- ---- what is named

-- the status itself
itself : (told : NlmStatus) → Exactly told (λ status. status ≡ told)
itself told = λ status. (λ e. sym e, λ e. sym e)

last_exactly : (n : ℕ) (f : FrontState) (s : CoreState) (l : LockItem) (plan : Aim → CallPlan) (due : Aim → NlmStatus → Type 0) (file : ℕ) (o : Option ℕ) → last_of l.l_offset l.l_len ≡ o
    → ((at : Aim) → at.first ≤ at.last → Exactly (status_of (carried n s f (plan at)).0) (due at)) → Exactly (status_of (carried n s f (at_bytes plan (aimed_at l file o))).0) (IsLastTold l file due o)
last_exactly n f s l plan due file None e each = itself stats.Fbig
last_exactly n f s l plan due file (Some last) e each = each (record { file = file; first = l.l_offset; last = last }) (last_real l.l_offset l.l_len last e)

range_exactly : (n : ℕ) (f : FrontState) (s : CoreState) (l : LockItem) (plan : Aim → CallPlan) (due : Aim → NlmStatus → Type 0) (o : Option ℕ)
    → ((at : Aim) → at.first ≤ at.last → Exactly (status_of (carried n s f (plan at)).0) (due at)) → Exactly (status_of (carried n s f (at_bytes plan (aimed_in l o))).0) (IsRangeTold l due o)
range_exactly n f s l plan due None each = itself stats.StaleFh
range_exactly n f s l plan due (Some file) each = last_exactly n f s l plan due file (last_of l.l_offset l.l_len) refl each

file_exactly : (n : ℕ) (f : FrontState) (s : CoreState) (plan : ℕ → CallPlan) (due : ℕ → NlmStatus → Type 0) (o : Option ℕ)
    → ((file : ℕ) → Exactly (status_of (carried n s f (plan file)).0) (due file)) → Exactly (status_of (carried n s f (on_file plan o)).0) (IsFileTold due o)
file_exactly n f s plan due None each = itself stats.StaleFh
file_exactly n f s plan due (Some file) each = each file

lock_exactly : (monitored : Bool) (n : ℕ) (f : FrontState) (s : CoreState) (a : LockArgsItem) (at : Aim) (b : Bool) → does_wait s a at ≡ b
    → Exactly (status_of (carried n s f (lock_plan monitored f s a at)).0) (IsLockTold b n (rooms f.hosts) s (lock_ask monitored (host_rows a.lock.caller_name f.hosts) a at) (lock_claim f.hosts s a at))
lock_exactly monitored n f s a at true e = rw e (itself stats.Blocked)
lock_exactly monitored n f s a at false e = rw e (claim_exactly n (rooms f.hosts) s (lock_ask monitored (host_rows a.lock.caller_name f.hosts) a at) (whats.Range (Bytes at.first at.last) a.exclusive) refl)

cancel_exactly : (n : ℕ) (f : FrontState) (s : CoreState) (o : Option ℕ) → Exactly (status_of (carried n s f (if_found f NotWaiting (λ id. Cancels id) o)).0) (IsCancelTold o)
cancel_exactly n f s None = itself stats.Denied
cancel_exactly n f s (Some id) = itself stats.Granted

unshare_exactly : (n : ℕ) (f : FrontState) (s : CoreState) (o : Option Claim) → Exactly (status_of (carried n s f (if_found f Ended (λ claim. GivesBack claim) o)).0) (λ told. told ≡ stats.Granted)
unshare_exactly n f s None = itself stats.Granted
unshare_exactly n f s (Some claim) = itself stats.Granted

-- ---- a call

some_same : (x y : NlmStatus) → (let some : Option NlmStatus = Some x in some ≡ Some y) → x ≡ y
some_same x y e = cc

told_some : (told : NlmStatus) (due : NlmStatus → Type 0) → Exactly told due → (status : NlmStatus) → ((let some : Option NlmStatus = Some told in some ≡ Some status) ↔ due status)
told_some told due exactly status = (λ e. (exactly status).0 (some_same told status e), λ is. ap Some ((exactly status).1 is))

pub status_due : (n count : ℕ) (f : FrontState) (s : CoreState) (call : CallItem) (status : NlmStatus) → IsGood s → (status_told call (served n count f s call).0 ≡ Some status) ↔ IsStatusDue n count f.hosts s call status
unfolding served planned aimed
status_due n count f s Null status good = (λ e. absurd cc, λ due. absurd due)
status_due n count f s (Granted a) status good = (λ e. absurd cc, λ due. absurd due)
status_due n count f s (FreeAll a) status good = (λ e. absurd cc, λ due. absurd due)
status_due n count f s (Test a) status good =
    told_some _ _ (range_exactly n f s a.lock _ _ (exported count a.lock.fh) (λ at ends. test_exactly n (rooms f.hosts) s a at)) status
status_due n count f s (Lock a) status good =
    told_some _ _ (range_exactly n f s a.lock _ _ (exported count a.lock.fh) (λ at ends. lock_exactly true n f s a at (does_wait s a at) refl)) status
status_due n count f s (NmLock a) status good =
    told_some _ _ (range_exactly n f s a.lock _ _ (exported count a.lock.fh) (λ at ends. lock_exactly false n f s a at (does_wait s a at) refl)) status
status_due n count f s (Cancel a) status good =
    told_some _ _ (range_exactly n f s a.lock _ _ (exported count a.lock.fh) (λ at ends. cancel_exactly n f s (waiter_for s a.lock a.exclusive at))) status
status_due n count f s (Unlock a) status good =
    told_some _ _ (range_exactly n f s a.lock _ _ (exported count a.lock.fh) (λ at ends. unlock_exactly n (rooms f.hosts) s a at good ends)) status
status_due n count f s (Share a) status good =
    told_some _ _ (file_exactly n f s _ _ (exported count a.fh) (λ file. claim_exactly n (rooms f.hosts) s (share_ask (host_rows a.caller_name f.hosts) a file) (whats.Share (rights_of a.access) (rights_of a.mode)) refl)) status
status_due n count f s (Unshare a) status good =
    told_some _ _ (file_exactly n f s _ _ (exported count a.fh) (λ file. unshare_exactly n f s (share_held s a file))) status

-- ---- what becomes of a test

tested_so : (s : CoreState) (a : Ask) (claim : Claim) (answer : Answer) → a.reclaim ≡ false → IsTestDue s a claim answer → IsTestAnswer answer
tested_so s a claim (answers.Granted c) timely due = tt
tested_so s a claim (answers.Conflict c) timely due = tt
tested_so s a claim (answers.Grace until) timely due = tt
tested_so s a claim (answers.NoGrace clock) timely due = absurd (both_ways a.reclaim timely due.2)
tested_so s a claim (answers.Queued number) timely due = absurd due
tested_so s a claim (answers.Full limit) timely due = absurd due
tested_so s a claim (answers.Recall c) timely due = absurd due
tested_so s a claim answers.NotRecorded timely due = absurd (both_ways a.reclaim timely (unrecorded_runs s (asker_as a) false a.reclaim (ap refusal due)).1)
tested_so s a claim answers.NotHeld timely due = absurd due
tested_so s a claim answers.StoreFailed timely due = absurd due

test_at : (n : ℕ) (f : FrontState) (s : CoreState) (l : LockItem) (plan : Aim → CallPlan) (file : ℕ) (o : Option ℕ) → ((at : Aim) → IsTestOutcome (carried n s f (plan at)).0) → IsTestOutcome (carried n s f (at_bytes plan (aimed_at l file o))).0
test_at n f s l plan file None each = tt
test_at n f s l plan file (Some last) each = each (record { file = file; first = l.l_offset; last = last })

test_in : (n : ℕ) (f : FrontState) (s : CoreState) (l : LockItem) (plan : Aim → CallPlan) (o : Option ℕ) → ((at : Aim) → IsTestOutcome (carried n s f (plan at)).0) → IsTestOutcome (carried n s f (at_bytes plan (aimed_in l o))).0
test_in n f s l plan None each = tt
test_in n f s l plan (Some file) each = test_at n f s l plan file (last_of l.l_offset l.l_len) each

-- the core never recalls for a test, nor does a test wait
pub outcome_of : (n count : ℕ) (f : FrontState) (s : CoreState) (call : CallItem) → IsOutcomeOf call (served n count f s call).0
unfolding served planned aimed
outcome_of n count f s (Test a) =
    test_in n f s a.lock _ (exported count a.lock.fh) (λ at.
    let request = test_ask a at in
    tested_so s request (known_claim request (Bytes at.first at.last) a.exclusive s.names) (ask n (rooms f.hosts) s request).0 refl ((ask_test n (rooms f.hosts) s request (Bytes at.first at.last) a.exclusive (ask n (rooms f.hosts) s request).0 refl).0 refl))
outcome_of n count f s Null = tt
outcome_of n count f s (Lock a) = tt
outcome_of n count f s (Cancel a) = tt
outcome_of n count f s (Unlock a) = tt
outcome_of n count f s (Granted a) = tt
outcome_of n count f s (Share a) = tt
outcome_of n count f s (Unshare a) = tt
outcome_of n count f s (NmLock a) = tt
outcome_of n count f s (FreeAll a) = tt
