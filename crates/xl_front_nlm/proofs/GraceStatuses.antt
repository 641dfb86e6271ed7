-- What grace makes of a call.
use Rattle.std.proofs.Common.{◌≡◌, ℕ, ◌≤◌, Bool, true, false, not, inl, inr, List, Option, Some, None, Result, Ok, Err, is_some, ◌↔◌, refl, sym, ap, subst, ◌∙◌}
use Rattle.std.proofs.lemmas.Bool.{cases_Bool, both_ways}
use Rattle.std.proofs.lemmas.Option.{same_Some}
use Rattle.xl_base.specs.declared.event.Moment.{Moment}
use Rattle.xl_base.specs.declared.stable.Recorded.{Recorded}
use Rattle.xl_grace.specs.Grace.{is_known}
use Rattle.xl_matrix.specs.declared.claim.Claim.{Claim}
use Rattle.xl_matrix.specs.declared.claim.Extent.TheVariants.{Bytes}
use Rattle.xl_matrix.specs.declared.claim.What.{What}
use Rattle.xl_matrix.specs.declared.claim.What.TheVariants as whats
use Rattle.xl_nlm.specs.Items.{LockItem, TestArgsItem, LockArgsItem, ShareArgsItem, CallItem, Null, Test, Lock, Cancel, Unlock, Granted, Share, Unshare, NmLock, FreeAll}
use Rattle.xl_nlm.specs.declared.item.NlmStatus.{NlmStatus}
use Rattle.xl_nlm.specs.declared.item.NlmStatus.TheVariants as stats
use Rattle.xl_wait.specs.declared.waiter.Rooms.{Rooms}
use Rattle.xl_core.proofs.StandingLaws.{no_grace, timely}
use Rattle.xl_core.proofs.WayAsks.{ask_due, ask_test}
use Rattle.xl_core.specs.Askers.{asked_what, known_claim}
use Rattle.xl_core.specs.Causes.{IsTestDue, asks_claims}
use Rattle.xl_core.specs.Decide.{ask}
use Rattle.xl_core.specs.Good.{IsGood}
use Rattle.xl_core.specs.Knowing.{KnowsRecord}
use Rattle.xl_core.specs.Standings.{is_smb, asker_as}
use Rattle.xl_core.specs.State.{CoreState}
use Rattle.xl_core.specs.declared.ask.Answer.{Answer}
use Rattle.xl_core.specs.declared.ask.Answer.TheVariants as answers
use Rattle.xl_core.specs.declared.ask.Ask.{Ask}
use Rattle.xl_plan.proofs.GraceLaws.{early_test, early_told, granted_told, late_told}
use Rattle.xl_plan.specs.Plans.{carried}
use Rattle.xl_front_nlm.proofs.AimLaws.{last_real}
use Rattle.xl_front_nlm.proofs.StatusLaws.{status_due}
use Rattle.xl_front_nlm.specs.Aims.{exported, last_of, aimed, aimed_at, aimed_in}
use Rattle.xl_front_nlm.specs.Asking.{reclaims}
use Rattle.xl_front_nlm.specs.Asks.{test_ask, lock_ask, rights_of, share_ask, unlock_ask}
use Rattle.xl_front_nlm.specs.Graces.{named_by, IsAmiss, IsGraceDue}
use Rattle.xl_front_nlm.specs.Hosts.{rooms, host_rows}
use Rattle.xl_front_nlm.specs.Results.{answer_status, status_of}
use Rattle.xl_front_nlm.specs.Serving.{CallPlan, asks, at_bytes, on_file, lock_plan, planned, host_of, served}
use Rattle.xl_front_nlm.specs.Standing.{does_wait, waiter_for}
use Rattle.xl_front_nlm.specs.State.{FrontState}
use Rattle.xl_front_nlm.specs.Statuses.{status_told, IsUnlockTold, IsLastTold, IsRangeTold, IsFileTold, IsCancelTold}
use Rattle.xl_front_nlm.specs.declared.aim.Aim.{Aim}
use Rattle.xl_front_nlm.specs.declared.outcome.Outcome.{Outcome}
use Rattle.xl_front_nlm.specs.declared.outcome.Outcome.TheVariants.{NoFile, TooBig}

-- ---- an ask

-- a lock or a share is told so exactly if it reclaims out of grace, or doesn't in grace
ask_amiss : (n : ℕ) (left : Rooms) (s : CoreState) (a : Ask) (what : What) → asked_what a.act ≡ Some what → is_smb a.party ≡ false → (answer_status (ask n left s a).0 ≡ stats.DeniedGracePeriod) ↔ IsAmiss s a.reclaim
ask_amiss n left s a what act other = (λ e. forth (ask n left s a).0 refl e, back a.reclaim refl) where
  early : ((until : Moment) × ((ask n left s a).0 ≡ answers.Grace until)) ↔ ((is_some s.grace ≡ true) × (a.reclaim ≡ false))
  early = early_told n left s a what act other

  late : ((clock : Moment) × ((ask n left s a).0 ≡ answers.NoGrace clock)) ↔ ((is_some s.grace ≡ false) × (a.reclaim ≡ true))
  late = late_told n left s a what act

  forth : (answer : Answer) → (ask n left s a).0 ≡ answer → answer_status answer ≡ stats.DeniedGracePeriod → IsAmiss s a.reclaim
  forth (answers.Grace until) is e = let told = early.0 (until, is) in told.0 ∙ sym (ap not told.1)
  forth (answers.NoGrace clock) is e = let told = late.0 (clock, is) in told.0 ∙ sym (ap not told.1)
  forth (answers.Granted c) is e = absurd cc
  forth (answers.Conflict c) is e = absurd cc
  forth (answers.Queued number) is e = absurd cc
  forth (answers.Recall c) is e = absurd cc
  forth answers.NotRecorded is e = absurd cc
  forth (answers.Full limit) is e = absurd cc
  forth answers.NotHeld is e = absurd cc
  forth answers.StoreFailed is e = absurd cc

  back : (b : Bool) → a.reclaim ≡ b → IsAmiss s a.reclaim → answer_status (ask n left s a).0 ≡ stats.DeniedGracePeriod
  back true reclaim amiss = ap answer_status (late.1 (amiss ∙ ap not reclaim, reclaim)).1
  back false plain amiss = ap answer_status (early.1 (amiss ∙ ap not plain, plain)).1

-- a test exactly while grace runs
test_amiss : (n : ℕ) (left : Rooms) (s : CoreState) (a : TestArgsItem) (at : Aim) → (answer_status (ask n left s (test_ask a at)).0 ≡ stats.DeniedGracePeriod) ↔ (is_some s.grace ≡ true)
test_amiss n left s a at = (λ e. elim (cases_Bool (is_some s.grace)) [ inl runs ↦ runs | inr none ↦ absurd (never none (ask n left s (test_ask a at)).0 (why (ask n left s (test_ask a at)).0 refl) e) ], back) where
  claim : Claim
  claim = known_claim (test_ask a at) (Bytes at.first at.last) a.exclusive s.names

  why : (answer : Answer) → (ask n left s (test_ask a at)).0 ≡ answer → IsTestDue s (test_ask a at) claim answer
  why answer e = (ask_test n left s (test_ask a at) (Bytes at.first at.last) a.exclusive answer refl).0 e

  back : is_some s.grace ≡ true → answer_status (ask n left s (test_ask a at)).0 ≡ stats.DeniedGracePeriod
  back runs = let due = early_test s (test_ask a at) claim runs refl in ap answer_status ((ask_test n left s (test_ask a at) (Bytes at.first at.last) a.exclusive (answers.Grace due.0) refl).1 due.1)

  never : is_some s.grace ≡ false → (answer : Answer) → IsTestDue s (test_ask a at) claim answer → answer_status answer ≡ stats.DeniedGracePeriod → ⊥
  never none (answers.Grace until) due e =
      let is = sym (timely s (asker_as (test_ask a at)) false (no_grace s.grace none)) ∙ due in
      cc
  never none (answers.NoGrace clock) due e = both_ways false refl due.2
  never none (answers.Granted c) due e = cc
  never none (answers.Conflict c) due e = cc
  never none (answers.Queued number) due e = cc
  never none (answers.Recall c) due e = cc
  never none answers.NotRecorded due e = cc
  never none (answers.Full limit) due e = cc
  never none answers.NotHeld due e = cc
  never none answers.StoreFailed due e = cc

-- ---- what is named

-- this status is told where this is due
abbrev Exact : NlmStatus → NlmStatus → Type 0 → Type 0
Exact told status due = (told ≡ status) ↔ due

last_due : (n : ℕ) (f : FrontState) (s : CoreState) (l : LockItem) (plan : Aim → CallPlan) (status : NlmStatus) (P : Aim → Type 0) (file : ℕ) (o : Option ℕ) → (stats.Fbig ≡ status → ⊥) → last_of l.l_offset l.l_len ≡ o
    → ((at : Aim) → at.first ≤ at.last → Exact (status_of (carried n s f (plan at)).0) status (P at)) → Exact (status_of (carried n s f (at_bytes plan (aimed_at l file o))).0) status ((at : Aim) × (aimed_at l file o ≡ Ok at) × P at)
last_due n f s l plan status P file None big e each = (λ told. absurd (big told), λ due. (let fails = due.1 in absurd cc))
last_due n f s l plan status P file (Some last) big e each = (λ told. (at, refl, (each at real).0 told), λ due. (each at real).1 (subst P (sym (same_Ok at due.0 due.1)) due.2)) where
  at : Aim
  at = record { file = file; first = l.l_offset; last = last }

  real : at.first ≤ at.last
  real = last_real l.l_offset l.l_len last e

  same_Ok : (x y : Aim) → (let ok : Result Aim Outcome = Ok x in ok ≡ Ok y) → x ≡ y
  same_Ok x y same = cc

-- a status that neither a stale handle nor too big a range has
range_due : (n : ℕ) (f : FrontState) (s : CoreState) (l : LockItem) (plan : Aim → CallPlan) (status : NlmStatus) (P : Aim → Type 0) (o : Option ℕ) → (stats.StaleFh ≡ status → ⊥) → (stats.Fbig ≡ status → ⊥)
    → ((at : Aim) → at.first ≤ at.last → Exact (status_of (carried n s f (plan at)).0) status (P at)) → Exact (status_of (carried n s f (at_bytes plan (aimed_in l o))).0) status ((at : Aim) × (aimed_in l o ≡ Ok at) × P at)
range_due n f s l plan status P None stale big each = (λ told. absurd (stale told), λ due. (let fails = due.1 in absurd cc))
range_due n f s l plan status P (Some file) stale big each = last_due n f s l plan status P file (last_of l.l_offset l.l_len) big refl each

file_due : (n : ℕ) (f : FrontState) (s : CoreState) (plan : ℕ → CallPlan) (status : NlmStatus) (P : ℕ → Type 0) (o : Option ℕ) → (stats.StaleFh ≡ status → ⊥)
    → ((file : ℕ) → Exact (status_of (carried n s f (plan file)).0) status (P file)) → Exact (status_of (carried n s f (on_file plan o)).0) status ((file : ℕ) × (o ≡ Some file) × P file)
file_due n f s plan status P None stale each = (λ told. absurd (stale told), λ due. (let fails = due.1 in absurd cc))
file_due n f s plan status P (Some file) stale each = (λ told. (file, refl, (each file).0 told), λ due. (each file).1 (subst P (sym (same_Some file due.0 due.1)) due.2))

-- ---- a lock

lock_amiss : (monitored : Bool) (n : ℕ) (f : FrontState) (s : CoreState) (a : LockArgsItem) (at : Aim) (b : Bool) → does_wait s a at ≡ b → Exact (status_of (carried n s f (lock_plan monitored f s a at)).0) stats.DeniedGracePeriod ((b ≡ false) × IsAmiss s a.reclaim)
lock_amiss monitored n f s a at true e = rw e (λ told. absurd cc, λ due. absurd (both_ways true due.0 refl))
lock_amiss monitored n f s a at false e =
    let exact = ask_amiss n (rooms f.hosts) s (lock_ask monitored (host_rows a.lock.caller_name f.hosts) a at) (whats.Range (Bytes at.first at.last) a.exclusive) refl refl in
    rw e (λ told. (refl, exact.0 told), λ due. exact.1 due.1)

-- ---- a call

some_status : (told status : NlmStatus) (due : Type 0) → Exact told status due → ((let some : Option NlmStatus = Some told in some ≡ Some status) ↔ due)
some_status told status due exact = (λ e. exact.0 (same_Some told status e), λ is. ap Some (exact.1 is))

-- a status that is due for no bytes isn't due at all
pub range_never : (l : LockItem) (told : Aim → NlmStatus → Type 0) (o : Option ℕ) (status : NlmStatus) → (status ≡ stats.StaleFh → ⊥) → (status ≡ stats.Fbig → ⊥) → ((at : Aim) → told at status → ⊥) → IsRangeTold l told o status → ⊥
range_never l told None status stale big each due = stale due
range_never l told (Some file) status stale big each due = by (last_of l.l_offset l.l_len) due where
  by : (o : Option ℕ) → IsLastTold l file told o status → ⊥
  by None e = big e
  by (Some last) e = each (record { file = file; first = l.l_offset; last = last }) e

pub call_amiss : (n count : ℕ) (f : FrontState) (s : CoreState) (call : CallItem) → IsGood s → (status_told call (served n count f s call).0 ≡ Some stats.DeniedGracePeriod) ↔ IsGraceDue count s call
unfolding served planned aimed
call_amiss n count f s (Test a) good =
    some_status _ _ _ (range_due n f s a.lock (λ at. asks None f (rooms f.hosts) (test_ask a at)) stats.DeniedGracePeriod (λ at. is_some s.grace ≡ true) (exported count a.lock.fh) (λ e. cc) (λ e. cc) (λ at real. test_amiss n (rooms f.hosts) s a at))
call_amiss n count f s (Lock a) good =
    some_status _ _ _ (range_due n f s a.lock (λ at. lock_plan true f s a at) stats.DeniedGracePeriod (λ at. (does_wait s a at ≡ false) × IsAmiss s a.reclaim) (exported count a.lock.fh) (λ e. cc) (λ e. cc) (λ at real. lock_amiss true n f s a at (does_wait s a at) refl))
call_amiss n count f s (NmLock a) good =
    some_status _ _ _ (range_due n f s a.lock (λ at. lock_plan false f s a at) stats.DeniedGracePeriod (λ at. (does_wait s a at ≡ false) × IsAmiss s a.reclaim) (exported count a.lock.fh) (λ e. cc) (λ e. cc) (λ at real. lock_amiss false n f s a at (does_wait s a at) refl))
call_amiss n count f s (Share a) good =
    some_status _ _ _ (file_due n f s (λ file. asks (Some a.caller_name) f (rooms f.hosts) (share_ask (host_rows a.caller_name f.hosts) a file)) stats.DeniedGracePeriod (λ file. IsAmiss s a.reclaim) (exported count a.fh) (λ e. cc)
    (λ file. ask_amiss n (rooms f.hosts) s (share_ask (host_rows a.caller_name f.hosts) a file) (whats.Share (rights_of a.access) (rights_of a.mode)) refl refl))
call_amiss n count f s (Cancel a) good = (λ told. range_never a.lock (λ at. IsCancelTold (waiter_for s a.lock a.exclusive at)) (exported count a.lock.fh) stats.DeniedGracePeriod (λ e. cc) (λ e. cc) (λ at. cancel_never (waiter_for s a.lock a.exclusive at)) ((status_due n count f s (Cancel a) stats.DeniedGracePeriod good).0 told), λ due. absurd due) where
  cancel_never : (o : Option ℕ) → IsCancelTold o stats.DeniedGracePeriod → ⊥
  cancel_never None e = cc
  cancel_never (Some id) e = cc
call_amiss n count f s (Unlock a) good =
    (λ told. range_never a.lock (λ at. IsUnlockTold s (known_claim (unlock_ask a at) (Bytes at.first at.last) false s.names) at.first at.last) (exported count a.lock.fh) stats.DeniedGracePeriod (λ e. cc) (λ e. cc) (λ at due. due) ((status_due n count f s (Unlock a) stats.DeniedGracePeriod good).0 told), λ due. absurd due)
call_amiss n count f s (Unshare a) good = (λ told. never (exported count a.fh) ((status_due n count f s (Unshare a) stats.DeniedGracePeriod good).0 told), λ due. absurd due) where
  never : (o : Option ℕ) → IsFileTold (λ file told. told ≡ stats.Granted) o stats.DeniedGracePeriod → ⊥
  never None e = cc
  never (Some file) e = cc
call_amiss n count f s Null good = (λ told. absurd cc, λ due. absurd due)
call_amiss n count f s (Granted a) good = (λ told. absurd cc, λ due. absurd due)
call_amiss n count f s (FreeAll a) good = (λ told. absurd cc, λ due. absurd due)

-- ---- who is let in

-- a lock or a share that is granted is a reclaim exactly in grace, of a caller that is recorded with a mark that agrees
ask_let_in : (n : ℕ) (left : Rooms) (s : CoreState) (a : Ask) (what : What) → asked_what a.act ≡ Some what → asks_claims a.act ≡ true → KnowsRecord s → answer_status (ask n left s a).0 ≡ stats.Granted
    → (a.reclaim ≡ is_some s.grace) × (a.reclaim ≡ true → is_known (asker_as a) s.stable.names ≡ true)
ask_let_in n left s a what act asks knows told = by (ask n left s a).0 refl told where
  by : (answer : Answer) → (ask n left s a).0 ≡ answer → answer_status answer ≡ stats.Granted → (a.reclaim ≡ is_some s.grace) × (a.reclaim ≡ true → is_known (asker_as a) s.stable.names ≡ true)
  by (answers.Granted c) e told = granted_told n left s a what c act asks knows e
  by answers.NotHeld e told = absurd ((ask_due n left s a what answers.NotHeld act).0 e)
  by (answers.Conflict c) e told = absurd cc
  by (answers.Queued number) e told = absurd cc
  by (answers.Recall c) e told = absurd cc
  by (answers.Grace until) e told = absurd cc
  by (answers.NoGrace clock) e told = absurd cc
  by answers.NotRecorded e told = absurd cc
  by (answers.Full limit) e told = absurd cc
  by answers.StoreFailed e told = absurd cc

-- what is let in of a lock, and of a share
abbrev IsLetIn : CoreState → Recorded → Bool → Type 0
IsLetIn s name reclaim = (reclaim ≡ is_some s.grace) × (reclaim ≡ true → is_known name s.stable.names ≡ true)

lock_let_in : (monitored : Bool) (n : ℕ) (f : FrontState) (s : CoreState) (a : LockArgsItem) (at : Aim) (b : Bool) → does_wait s a at ≡ b → KnowsRecord s → status_of (carried n s f (lock_plan monitored f s a at)).0 ≡ stats.Granted → IsLetIn s (named_by (Lock a) a.lock.caller_name) a.reclaim
lock_let_in monitored n f s a at true e knows = rw e (λ told. absurd cc)
lock_let_in monitored n f s a at false e knows = rw e (λ told. ask_let_in n (rooms f.hosts) s (lock_ask monitored (host_rows a.lock.caller_name f.hosts) a at) (whats.Range (Bytes at.first at.last) a.exclusive) refl refl knows told)

locking_let_in : (monitored : Bool) (n : ℕ) (f : FrontState) (s : CoreState) (a : LockArgsItem) (r : Result Aim Outcome) → ((outcome : Outcome) → r ≡ Err outcome → status_of outcome ≡ stats.Granted → ⊥) → KnowsRecord s
    → status_of (carried n s f (at_bytes (λ at. lock_plan monitored f s a at) r)).0 ≡ stats.Granted → IsLetIn s (named_by (Lock a) a.lock.caller_name) a.reclaim
locking_let_in monitored n f s a (Err outcome) fails knows told = absurd (fails outcome refl told)
locking_let_in monitored n f s a (Ok at) fails knows told = lock_let_in monitored n f s a at (does_wait s a at) refl knows told

sharing_let_in : (n : ℕ) (f : FrontState) (s : CoreState) (a : ShareArgsItem) (o : Option ℕ) → KnowsRecord s → status_of (carried n s f (on_file (λ file. asks (Some a.caller_name) f (rooms f.hosts) (share_ask (host_rows a.caller_name f.hosts) a file)) o)).0 ≡ stats.Granted → IsLetIn s (named_by (Share a) a.caller_name) a.reclaim
sharing_let_in n f s a None knows told = absurd cc
sharing_let_in n f s a (Some file) knows told = ask_let_in n (rooms f.hosts) s (share_ask (host_rows a.caller_name f.hosts) a file) (whats.Share (rights_of a.access) (rights_of a.mode)) refl refl knows told

-- what names no bytes is told no other status
pub unaimed : (count : ℕ) (l : LockItem) (outcome : Outcome) (status : NlmStatus) → (stats.StaleFh ≡ status → ⊥) → (stats.Fbig ≡ status → ⊥) → aimed count l ≡ Err outcome → status_of outcome ≡ status → ⊥
unfolding aimed
unaimed count l outcome status stale big e told = in_file (exported count l.fh) e where
  same_Err : (x : Outcome) → (let err : Result Aim Outcome = Err x in err ≡ Err outcome) → status_of x ≡ status_of outcome
  same_Err x same = let is : x ≡ outcome = cc in ap status_of is

  at_end : (file : ℕ) (o : Option ℕ) → aimed_at l file o ≡ Err outcome → ⊥
  at_end file None e = big (same_Err TooBig e ∙ told)
  at_end file (Some last) e = cc

  in_file : (o : Option ℕ) → aimed_in l o ≡ Err outcome → ⊥
  in_file None e = stale (same_Err NoFile e ∙ told)
  in_file (Some file) e = at_end file (last_of l.l_offset l.l_len) e

-- the caller of a lock is its host
pub same_caller : (caller other : List ℕ) → (let some : Option (List ℕ) = Some caller in some ≡ Some other) → caller ≡ other
same_caller caller other e = same_Some caller other e

pub call_granted : (n count : ℕ) (f : FrontState) (s : CoreState) (call : CallItem) (caller : List ℕ) → KnowsRecord s → host_of call ≡ Some caller → status_told call (served n count f s call).0 ≡ Some stats.Granted
    → (reclaims call ≡ is_some s.grace) × (reclaims call ≡ true → is_known (named_by call caller) s.stable.names ≡ true)
unfolding served planned
call_granted n count f s (Lock a) caller knows is told =
    subst (λ (c : List ℕ). IsLetIn s (named_by (Lock a) c) a.reclaim) (same_caller a.lock.caller_name caller is) (locking_let_in true n f s a (aimed count a.lock) (λ outcome e. unaimed count a.lock outcome stats.Granted (λ d. cc) (λ d. cc) e) knows (same_Some _ _ told))
call_granted n count f s (NmLock a) caller knows is told =
    subst (λ (c : List ℕ). IsLetIn s (named_by (NmLock a) c) a.reclaim) (same_caller a.lock.caller_name caller is) (locking_let_in false n f s a (aimed count a.lock) (λ outcome e. unaimed count a.lock outcome stats.Granted (λ d. cc) (λ d. cc) e) knows (same_Some _ _ told))
call_granted n count f s (Share a) caller knows is told = subst (λ (c : List ℕ). IsLetIn s (named_by (Share a) c) a.reclaim) (same_caller a.caller_name caller is) (sharing_let_in n f s a (exported count a.fh) knows (same_Some _ _ told))
call_granted n count f s (Test a) caller knows is told = absurd cc
call_granted n count f s (Cancel a) caller knows is told = absurd cc
call_granted n count f s (Unlock a) caller knows is told = absurd cc
call_granted n count f s (Unshare a) caller knows is told = absurd cc
call_granted n count f s (FreeAll a) caller knows is told = absurd cc
call_granted n count f s Null caller knows is told = absurd cc
call_granted n count f s (Granted a) caller knows is told = absurd cc
