-- What stores make of a call, and what a call leaves of the record.
use Rattle.std.proofs.Common.{◌≡◌, ◌⊎◌, ℕ, Bool, true, false, inl, inr, List, Option, Some, None, Result, Ok, Err, ◌↔◌, refl, sym, ap, ◌∙◌}
use Rattle.std.proofs.lemmas.Bool.{both_ways}
use Rattle.std.proofs.lemmas.Option.{same_Some}
use Rattle.xl_base.specs.RecordFile.{with_name}
use Rattle.xl_base.specs.Stable.{Stable, is_kept, is_recordable}
use Rattle.xl_base.specs.declared.name.Party.TheVariants as parties
use Rattle.xl_base.specs.declared.name.Protocol.TheVariants.{Nlm}
use Rattle.xl_base.specs.declared.stable.Recorded.{Recorded}
use Rattle.xl_grace.specs.Grace.{is_known}
use Rattle.xl_matrix.specs.declared.claim.Claim.{Claim}
use Rattle.xl_matrix.specs.declared.claim.Extent.TheVariants.{Bytes}
use Rattle.xl_matrix.specs.declared.claim.What.{What}
use Rattle.xl_matrix.specs.declared.claim.What.TheVariants as whats
use Rattle.xl_names.specs.Names.{number_of}
use Rattle.xl_names.specs.declared.name.Name.TheVariants.{NlmParty}
use Rattle.xl_nlm.specs.Items.{LockArgsItem, ShareArgsItem, CallItem, Null, Test, Lock, Cancel, Unlock, Granted, Share, Unshare, NmLock, FreeAll}
use Rattle.xl_nlm.specs.declared.item.NlmStatus.TheVariants as stats
use Rattle.xl_wait.specs.declared.waiter.Rooms.{Rooms}
use Rattle.xl_core.proofs.WayAsks.{ask_due}
use Rattle.xl_core.specs.Askers.{asked_what, is_client, known_claim}
use Rattle.xl_core.specs.Decide.{ask}
use Rattle.xl_core.specs.Deeds.{Cancels, Ends, GivesBack}
use Rattle.xl_core.specs.Good.{IsGood}
use Rattle.xl_core.specs.Knowing.{KnowsRecord}
use Rattle.xl_core.specs.Settle.{cancel, end_party, give_back}
use Rattle.xl_core.specs.Standings.{asker_as}
use Rattle.xl_core.specs.State.{CoreState, Aside, aside_of}
use Rattle.xl_core.specs.declared.ask.Answer.{Answer}
use Rattle.xl_core.specs.declared.ask.Answer.TheVariants as answers
use Rattle.xl_core.specs.declared.ask.Ask.{Ask}
use Rattle.xl_plan.proofs.AsideLaws.{cancel_aside, end_aside, give_aside}
use Rattle.xl_plan.proofs.RecordLaws.{failed_told, gained_told, reclaim_told, recorded_told, unmonitored_told}
use Rattle.xl_plan.specs.Plans.{carried}
use Rattle.xl_front_nlm.proofs.AskLaws.{own_client}
use Rattle.xl_front_nlm.proofs.GraceStatuses.{call_granted, range_never, same_caller, unaimed}
use Rattle.xl_front_nlm.proofs.StatusLaws.{status_due}
use Rattle.xl_front_nlm.specs.Aims.{exported, aimed}
use Rattle.xl_front_nlm.specs.Asking.{monitors, reclaims}
use Rattle.xl_front_nlm.specs.Asks.{test_ask, lock_ask, rights_of, share_ask, unlock_ask}
use Rattle.xl_front_nlm.specs.Graces.{named_by}
use Rattle.xl_front_nlm.specs.Hosts.{rooms, host_rows}
use Rattle.xl_front_nlm.specs.Results.{answer_status, status_of}
use Rattle.xl_front_nlm.specs.Serving.{asks, at_bytes, if_found, lock_plan, on_file, planned, host_of, served}
use Rattle.xl_front_nlm.specs.Standing.{does_wait, share_held, waiter_for}
use Rattle.xl_front_nlm.specs.State.{FrontState}
use Rattle.xl_front_nlm.specs.Statuses.{status_told, IsCancelTold, IsFileTold, IsTestTold, IsUnlockTold}
use Rattle.xl_front_nlm.specs.declared.aim.Aim.{Aim}
use Rattle.xl_front_nlm.specs.declared.outcome.Outcome.{Outcome}
use Rattle.xl_front_nlm.specs.declared.outcome.Outcome.TheVariants.{Answered, Ended, NotWaiting}

-- ---- a call whose caller isn't monitored

-- the record and the stores of the step are as they were
abbrev Keeps : CoreState → CoreState → Type 0
Keeps s t = aside_of (record t { grace = s.grace }) ≡ aside_of s

keeps_aside : (s t : CoreState) → aside_of t ≡ aside_of s → Keeps s t
keeps_aside s t same = ap (λ (x : Aside). record x { grace = s.grace }) same

bytes_kept : (n : ℕ) (f : FrontState) (s : CoreState) (host : Option (List ℕ)) (q : Aim → Ask) (r : Result Aim Outcome) → ((at : Aim) → Keeps s (ask n (rooms f.hosts) s (q at)).2) → Keeps s (carried n s f (at_bytes (λ at. asks host f (rooms f.hosts) (q at)) r)).3
bytes_kept n f s host q (Err outcome) each = refl
bytes_kept n f s host q (Ok at) each = each at

nm_lock_kept : (n : ℕ) (f : FrontState) (s : CoreState) (a : LockArgsItem) (at : Aim) (b : Bool) → does_wait s a at ≡ b → IsGood s → Keeps s (carried n s f (lock_plan false f s a at)).3
nm_lock_kept n f s a at true e good = rw e refl
nm_lock_kept n f s a at false e good = rw e (unmonitored_told n (rooms f.hosts) s (lock_ask false (host_rows a.lock.caller_name f.hosts) a at) good (own_client a.lock.caller_name) refl)

nm_locking_kept : (n : ℕ) (f : FrontState) (s : CoreState) (a : LockArgsItem) (r : Result Aim Outcome) → IsGood s → Keeps s (carried n s f (at_bytes (λ at. lock_plan false f s a at) r)).3
nm_locking_kept n f s a (Err outcome) good = refl
nm_locking_kept n f s a (Ok at) good = nm_lock_kept n f s a at (does_wait s a at) refl good

cancel_kept : (n : ℕ) (f : FrontState) (s : CoreState) (o : Option ℕ) → Keeps s (carried n s f (if_found f NotWaiting (λ id. Cancels id) o)).3
cancel_kept n f s None = refl
cancel_kept n f s (Some id) = keeps_aside s (cancel s id).1 (cancel_aside s id)

cancelling_kept : (n : ℕ) (f : FrontState) (s : CoreState) (o : Aim → Option ℕ) (r : Result Aim Outcome) → Keeps s (carried n s f (at_bytes (λ at. if_found f NotWaiting (λ id. Cancels id) (o at)) r)).3
cancelling_kept n f s o (Err outcome) = refl
cancelling_kept n f s o (Ok at) = cancel_kept n f s (o at)

given_kept : (n : ℕ) (f : FrontState) (s : CoreState) (o : Option Claim) → Keeps s (carried n s f (if_found f Ended (λ claim. GivesBack claim) o)).3
given_kept n f s None = refl
given_kept n f s (Some claim) = keeps_aside s (give_back s claim).1 (give_aside s claim)

giving_kept : (n : ℕ) (f : FrontState) (s : CoreState) (share : ℕ → Option Claim) (o : Option ℕ) → Keeps s (carried n s f (on_file (λ file. if_found f Ended (λ claim. GivesBack claim) (share file)) o)).3
giving_kept n f s share None = refl
giving_kept n f s share (Some file) = given_kept n f s (share file)

ended_kept : (n : ℕ) (f : FrontState) (s : CoreState) (o : Option ℕ) → Keeps s (carried n s f (if_found f Ended (λ number. Ends (parties.Name Nlm number)) o)).3
ended_kept n f s None = refl
ended_kept n f s (Some number) = keeps_aside s (end_party s (parties.Name Nlm number)).1 (end_aside s (parties.Name Nlm number))

pub call_unmonitored : (n count : ℕ) (f : FrontState) (s : CoreState) (call : CallItem) → IsGood s → monitors call ≡ false → aside_of (record (served n count f s call).3 { grace = s.grace }) ≡ aside_of s
unfolding served planned
call_unmonitored n count f s (Test a) good plain = bytes_kept n f s None (test_ask a) (aimed count a.lock) (λ at. unmonitored_told n (rooms f.hosts) s (test_ask a at) good (own_client a.lock.caller_name) refl)
call_unmonitored n count f s (Lock a) good plain = absurd (both_ways true plain refl)
call_unmonitored n count f s (Cancel a) good plain = cancelling_kept n f s (λ at. waiter_for s a.lock a.exclusive at) (aimed count a.lock)
call_unmonitored n count f s (Unlock a) good plain = bytes_kept n f s None (unlock_ask a) (aimed count a.lock) (λ at. unmonitored_told n (rooms f.hosts) s (unlock_ask a at) good (own_client a.lock.caller_name) refl)
call_unmonitored n count f s (Share a) good plain = absurd (both_ways true plain refl)
call_unmonitored n count f s (Unshare a) good plain = giving_kept n f s (λ file. share_held s a file) (exported count a.fh)
call_unmonitored n count f s (NmLock a) good plain = nm_locking_kept n f s a (aimed count a.lock) good
call_unmonitored n count f s (FreeAll a) good plain = ended_kept n f s (number_of (NlmParty a.name) s.names)
call_unmonitored n count f s Null good plain = refl
call_unmonitored n count f s (Granted a) good plain = refl

-- ---- a call that reclaims

back_kept : (monitored : Bool) (n : ℕ) (f : FrontState) (s : CoreState) (a : LockArgsItem) (at : Aim) (b : Bool) → does_wait s a at ≡ b → IsGood s → a.reclaim ≡ true → Keeps s (carried n s f (lock_plan monitored f s a at)).3
back_kept monitored n f s a at true e good back = rw e refl
back_kept monitored n f s a at false e good back = rw e (reclaim_told n (rooms f.hosts) s (lock_ask monitored (host_rows a.lock.caller_name f.hosts) a at) good (own_client a.lock.caller_name) back)

locking_back_kept : (monitored : Bool) (n : ℕ) (f : FrontState) (s : CoreState) (a : LockArgsItem) (r : Result Aim Outcome) → IsGood s → a.reclaim ≡ true → Keeps s (carried n s f (at_bytes (λ at. lock_plan monitored f s a at) r)).3
locking_back_kept monitored n f s a (Err outcome) good back = refl
locking_back_kept monitored n f s a (Ok at) good back = back_kept monitored n f s a at (does_wait s a at) refl good back

sharing_back_kept : (n : ℕ) (f : FrontState) (s : CoreState) (a : ShareArgsItem) (o : Option ℕ) → IsGood s → a.reclaim ≡ true → Keeps s (carried n s f (on_file (λ file. asks (Some a.caller_name) f (rooms f.hosts) (share_ask (host_rows a.caller_name f.hosts) a file)) o)).3
sharing_back_kept n f s a None good back = refl
sharing_back_kept n f s a (Some file) good back = reclaim_told n (rooms f.hosts) s (share_ask (host_rows a.caller_name f.hosts) a file) good (own_client a.caller_name) back

pub call_reclaims : (n count : ℕ) (f : FrontState) (s : CoreState) (call : CallItem) → IsGood s → reclaims call ≡ true → aside_of (record (served n count f s call).3 { grace = s.grace }) ≡ aside_of s
unfolding served planned
call_reclaims n count f s (Lock a) good back = locking_back_kept true n f s a (aimed count a.lock) good back
call_reclaims n count f s (NmLock a) good back = locking_back_kept false n f s a (aimed count a.lock) good back
call_reclaims n count f s (Share a) good back = sharing_back_kept n f s a (exported count a.fh) good back
call_reclaims n count f s (Test a) good back = absurd (both_ways false refl back)
call_reclaims n count f s (Cancel a) good back = absurd (both_ways false refl back)
call_reclaims n count f s (Unlock a) good back = absurd (both_ways false refl back)
call_reclaims n count f s (Unshare a) good back = absurd (both_ways false refl back)
call_reclaims n count f s (FreeAll a) good back = absurd (both_ways false refl back)
call_reclaims n count f s Null good back = absurd (both_ways false refl back)
call_reclaims n count f s (Granted a) good back = absurd (both_ways false refl back)

-- what is granted then is known to the record still
pub call_known : (n count : ℕ) (f : FrontState) (s : CoreState) (call : CallItem) (caller : List ℕ) → IsGood s → KnowsRecord s → host_of call ≡ Some caller → reclaims call ≡ true
    → (let r = served n count f s call in status_told call r.0 ≡ Some stats.Granted → is_known (named_by call caller) r.3.stable.names ≡ true)
call_known n count f s call caller good knows is back told =
    ap (λ (stable : Stable). is_known (named_by call caller) stable.names) (ap (λ (x : Aside). x.stable) (call_reclaims n count f s call good back)) ∙ (call_granted n count f s call caller knows is told).1 back

-- ---- FAILED

-- the status is told exactly if a store failed
abbrev IsFair : Outcome → CoreState → Type 0
IsFair outcome t = (status_of outcome ≡ stats.Failed) ↔ (t.failed ≡ true)

fair_same : (outcome : Outcome) (t : CoreState) → (status_of outcome ≡ stats.Failed → ⊥) → t.failed ≡ false → IsFair outcome t
fair_same outcome t never fresh = (λ told. absurd (never told), λ failed. absurd (both_ways t.failed fresh failed))

ask_fair : (n : ℕ) (left : Rooms) (s : CoreState) (a : Ask) (what : What) → IsGood s → is_client a.owner a.party ≡ true → asked_what a.act ≡ Some what → s.failed ≡ false → (answer_status (ask n left s a).0 ≡ stats.Failed) ↔ ((ask n left s a).2.failed ≡ true)
ask_fair n left s a what good client act fresh = (λ told. told_so.0 (failed (ask n left s a).0 told), λ left_failed. ap answer_status (told_so.1 left_failed)) where
  told_so : ((ask n left s a).0 ≡ answers.StoreFailed) ↔ ((ask n left s a).2.failed ≡ true)
  told_so = failed_told n left s a what good client act fresh

  failed : (answer : Answer) → answer_status answer ≡ stats.Failed → answer ≡ answers.StoreFailed
  failed answers.StoreFailed e = refl
  failed (answers.Granted c) e = absurd cc
  failed (answers.Conflict c) e = absurd cc
  failed (answers.Queued number) e = absurd cc
  failed (answers.Recall c) e = absurd cc
  failed (answers.Grace until) e = absurd cc
  failed (answers.NoGrace clock) e = absurd cc
  failed answers.NotRecorded e = absurd cc
  failed (answers.Full limit) e = absurd cc
  failed answers.NotHeld e = absurd cc

lock_fair : (monitored : Bool) (n : ℕ) (f : FrontState) (s : CoreState) (a : LockArgsItem) (at : Aim) (b : Bool) → does_wait s a at ≡ b → IsGood s → s.failed ≡ false → (let r = carried n s f (lock_plan monitored f s a at) in IsFair r.0 r.3)
lock_fair monitored n f s a at true e good fresh = rw e (λ told. absurd cc, λ failed. absurd (both_ways s.failed fresh failed))
lock_fair monitored n f s a at false e good fresh =
    rw e (ask_fair n (rooms f.hosts) s (lock_ask monitored (host_rows a.lock.caller_name f.hosts) a at) (whats.Range (Bytes at.first at.last) a.exclusive) good (own_client a.lock.caller_name) refl fresh)

locking_fair : (monitored : Bool) (n count : ℕ) (f : FrontState) (s : CoreState) (a : LockArgsItem) (o : Result Aim Outcome) → aimed count a.lock ≡ o → IsGood s → s.failed ≡ false → (let r = carried n s f (at_bytes (λ at. lock_plan monitored f s a at) o) in IsFair r.0 r.3)
locking_fair monitored n count f s a (Err outcome) e good fresh = fair_same outcome s (unaimed count a.lock outcome stats.Failed (λ d. cc) (λ d. cc) e) fresh
locking_fair monitored n count f s a (Ok at) e good fresh = lock_fair monitored n f s a at (does_wait s a at) refl good fresh

sharing_fair : (n : ℕ) (f : FrontState) (s : CoreState) (a : ShareArgsItem) (o : Option ℕ) → IsGood s → s.failed ≡ false → (let r = carried n s f (on_file (λ file. asks (Some a.caller_name) f (rooms f.hosts) (share_ask (host_rows a.caller_name f.hosts) a file)) o) in IsFair r.0 r.3)
sharing_fair n f s a None good fresh = (λ told. absurd cc, λ failed. absurd (both_ways s.failed fresh failed))
sharing_fair n f s a (Some file) good fresh = ask_fair n (rooms f.hosts) s (share_ask (host_rows a.caller_name f.hosts) a file) (whats.Share (rights_of a.access) (rights_of a.mode)) good (own_client a.caller_name) refl fresh

-- the status of a call that has one
fair_some : (outcome : Outcome) (t : CoreState) → IsFair outcome t → (let some = Some (status_of outcome) in some ≡ Some stats.Failed) ↔ (t.failed ≡ true)
fair_some outcome t fair = (λ e. fair.0 (same_Some _ _ e), λ failed. ap Some (fair.1 failed))

-- the others never fail a store, nor are they told that one failed
none_fair : (n count : ℕ) (f : FrontState) (s : CoreState) (call : CallItem) → IsGood s → s.failed ≡ false → monitors call ≡ false → (status_told call (served n count f s call).0 ≡ Some stats.Failed → ⊥) → (let r = served n count f s call in (status_told call r.0 ≡ Some stats.Failed) ↔ (r.3.failed ≡ true))
none_fair n count f s call good fresh plain never = (λ told. absurd (never told), λ failed. absurd (both_ways (served n count f s call).3.failed (ap (λ (x : Aside). x.failed) (call_unmonitored n count f s call good plain) ∙ fresh) failed))

pub call_failed : (n count : ℕ) (f : FrontState) (s : CoreState) (call : CallItem) → IsGood s → s.failed ≡ false → (let r = served n count f s call in (status_told call r.0 ≡ Some stats.Failed) ↔ (r.3.failed ≡ true))
unfolding served planned
call_failed n count f s (Lock a) good fresh = fair_some (served n count f s (Lock a)).0 (served n count f s (Lock a)).3 (locking_fair true n count f s a (aimed count a.lock) refl good fresh)
call_failed n count f s (NmLock a) good fresh = fair_some (served n count f s (NmLock a)).0 (served n count f s (NmLock a)).3 (locking_fair false n count f s a (aimed count a.lock) refl good fresh)
call_failed n count f s (Share a) good fresh = fair_some (served n count f s (Share a)).0 (served n count f s (Share a)).3 (sharing_fair n f s a (exported count a.fh) good fresh)
call_failed n count f s (Test a) good fresh =
    none_fair n count f s (Test a) good fresh refl
    (λ told. range_never a.lock (λ at. IsTestTold s (test_ask a at) (known_claim (test_ask a at) (Bytes at.first at.last) a.exclusive s.names)) (exported count a.lock.fh) stats.Failed (λ e. cc) (λ e. cc) (λ at due. due) ((status_due n count f s (Test a) stats.Failed good).0 told))
call_failed n count f s (Cancel a) good fresh =
    none_fair n count f s (Cancel a) good fresh refl
    (λ told. range_never a.lock (λ at. IsCancelTold (waiter_for s a.lock a.exclusive at)) (exported count a.lock.fh) stats.Failed (λ e. cc) (λ e. cc) (λ at. never (waiter_for s a.lock a.exclusive at)) ((status_due n count f s (Cancel a) stats.Failed good).0 told))
  where
    never : (o : Option ℕ) → IsCancelTold o stats.Failed → ⊥
    never None e = cc
    never (Some id) e = cc
call_failed n count f s (Unlock a) good fresh =
    none_fair n count f s (Unlock a) good fresh refl
    (λ told. range_never a.lock (λ at. IsUnlockTold s (known_claim (unlock_ask a at) (Bytes at.first at.last) false s.names) at.first at.last) (exported count a.lock.fh) stats.Failed (λ e. cc) (λ e. cc) (λ at due. due) ((status_due n count f s (Unlock a) stats.Failed good).0 told))
call_failed n count f s (Unshare a) good fresh = none_fair n count f s (Unshare a) good fresh refl (λ told. never (exported count a.fh) ((status_due n count f s (Unshare a) stats.Failed good).0 told)) where
  never : (o : Option ℕ) → IsFileTold (λ file told. told ≡ stats.Granted) o stats.Failed → ⊥
  never None e = cc
  never (Some file) e = cc
call_failed n count f s (FreeAll a) good fresh = none_fair n count f s (FreeAll a) good fresh refl (λ told. cc)
call_failed n count f s Null good fresh = none_fair n count f s Null good fresh refl (λ told. cc)
call_failed n count f s (Granted a) good fresh = none_fair n count f s (Granted a) good fresh refl (λ told. cc)

-- ---- the record

-- of a lock or a share that is granted and no reclaim the record has the client then, with its mark
ask_recorded : (n : ℕ) (left : Rooms) (s : CoreState) (a : Ask) (what : What) → IsGood s → is_client a.owner a.party ≡ true → asked_what a.act ≡ Some what → a.monitored ≡ true → a.reclaim ≡ false → is_recordable (asker_as a) ≡ true
    → answer_status (ask n left s a).0 ≡ stats.Granted → is_kept (asker_as a) (ask n left s a).2.stable.names ≡ true
ask_recorded n left s a what good client act monitored plain recordable told = by (ask n left s a).0 refl told where
  by : (answer : Answer) → (ask n left s a).0 ≡ answer → answer_status answer ≡ stats.Granted → is_kept (asker_as a) (ask n left s a).2.stable.names ≡ true
  by (answers.Granted c) e told = recorded_told n left s a what c good client act monitored plain recordable e
  by answers.NotHeld e told = absurd ((ask_due n left s a what answers.NotHeld act).0 e)
  by (answers.Conflict c) e told = absurd cc
  by (answers.Queued number) e told = absurd cc
  by (answers.Recall c) e told = absurd cc
  by (answers.Grace until) e told = absurd cc
  by (answers.NoGrace clock) e told = absurd cc
  by answers.NotRecorded e told = absurd cc
  by (answers.Full limit) e told = absurd cc
  by answers.StoreFailed e told = absurd cc

lock_recorded : (n : ℕ) (f : FrontState) (s : CoreState) (a : LockArgsItem) (at : Aim) (b : Bool) → does_wait s a at ≡ b → IsGood s → a.reclaim ≡ false
    → (let r = carried n s f (lock_plan true f s a at) in status_of r.0 ≡ stats.Granted → is_kept (named_by (Lock a) a.lock.caller_name) r.3.stable.names ≡ true)
lock_recorded n f s a at true e good plain = rw e (λ told. absurd cc)
lock_recorded n f s a at false e good plain =
    rw e (λ told. ask_recorded n (rooms f.hosts) s (lock_ask true (host_rows a.lock.caller_name f.hosts) a at) (whats.Range (Bytes at.first at.last) a.exclusive) good (own_client a.lock.caller_name) refl refl plain refl told)

locking_recorded : (n count : ℕ) (f : FrontState) (s : CoreState) (a : LockArgsItem) (o : Result Aim Outcome) → aimed count a.lock ≡ o → IsGood s → a.reclaim ≡ false
    → (let r = carried n s f (at_bytes (λ at. lock_plan true f s a at) o) in status_of r.0 ≡ stats.Granted → is_kept (named_by (Lock a) a.lock.caller_name) r.3.stable.names ≡ true)
locking_recorded n count f s a (Err outcome) e good plain told = absurd (unaimed count a.lock outcome stats.Granted (λ d. cc) (λ d. cc) e told)
locking_recorded n count f s a (Ok at) e good plain told = lock_recorded n f s a at (does_wait s a at) refl good plain told

sharing_recorded : (n : ℕ) (f : FrontState) (s : CoreState) (a : ShareArgsItem) (o : Option ℕ) → IsGood s → a.reclaim ≡ false
    → (let r = carried n s f (on_file (λ file. asks (Some a.caller_name) f (rooms f.hosts) (share_ask (host_rows a.caller_name f.hosts) a file)) o) in status_of r.0 ≡ stats.Granted → is_kept (named_by (Share a) a.caller_name) r.3.stable.names ≡ true)
sharing_recorded n f s a None good plain told = absurd cc
sharing_recorded n f s a (Some file) good plain told = ask_recorded n (rooms f.hosts) s (share_ask (host_rows a.caller_name f.hosts) a file) (whats.Share (rights_of a.access) (rights_of a.mode)) good (own_client a.caller_name) refl refl plain refl told

pub call_recorded : (n count : ℕ) (f : FrontState) (s : CoreState) (call : CallItem) (caller : List ℕ) → IsGood s → host_of call ≡ Some caller → monitors call ≡ true → reclaims call ≡ false
    → (let r = served n count f s call in status_told call r.0 ≡ Some stats.Granted → is_kept (named_by call caller) r.3.stable.names ≡ true)
unfolding served planned
call_recorded n count f s (Lock a) caller good is monitored plain told =
    let left = locking_recorded n count f s a (aimed count a.lock) refl good plain (same_Some _ _ told) in
    ap (λ (c : List ℕ). is_kept (named_by (Lock a) c) (carried n s f (at_bytes (λ at. lock_plan true f s a at) (aimed count a.lock))).3.stable.names) (sym (same_caller a.lock.caller_name caller is)) ∙ left
call_recorded n count f s (Share a) caller good is monitored plain told =
    let left = sharing_recorded n f s a (exported count a.fh) good plain (same_Some _ _ told) in
    ap (λ (c : List ℕ). is_kept (named_by (Share a) c) (carried n s f (on_file (λ file. asks (Some a.caller_name) f (rooms f.hosts) (share_ask (host_rows a.caller_name f.hosts) a file)) (exported count a.fh))).3.stable.names) (sym (same_caller a.caller_name caller is)) ∙ left
call_recorded n count f s (Test a) caller good is monitored plain told = absurd (both_ways false refl monitored)
call_recorded n count f s (Cancel a) caller good is monitored plain told = absurd (both_ways false refl monitored)
call_recorded n count f s (Unlock a) caller good is monitored plain told = absurd (both_ways false refl monitored)
call_recorded n count f s (Unshare a) caller good is monitored plain told = absurd (both_ways false refl monitored)
call_recorded n count f s (NmLock a) caller good is monitored plain told = absurd (both_ways false refl monitored)
call_recorded n count f s (FreeAll a) caller good is monitored plain told = absurd (both_ways false refl monitored)
call_recorded n count f s Null caller good is monitored plain told = absurd (both_ways false refl monitored)
call_recorded n count f s (Granted a) caller good is monitored plain told = absurd (both_ways false refl monitored)

-- the record is as it was, or it gains this name with its mark, which it lacked, and that where the outcome is a grant and no reclaim
abbrev Gains : CoreState → Recorded → Bool → Outcome → CoreState → Type 0
Gains s name reclaim outcome t = (t.stable ≡ s.stable) ⊎ ((reclaim ≡ false) × (status_of outcome ≡ stats.Granted) × (is_kept name s.stable.names ≡ false) × (t.stable ≡ with_name name s.stable))

ask_gains : (n : ℕ) (left : Rooms) (s : CoreState) (a : Ask) → IsGood s → is_client a.owner a.party ≡ true → Gains s (asker_as a) a.reclaim (Answered (ask n left s a).0) (ask n left s a).2
ask_gains n left s a good client = elim (gained_told n left s a good client) [ inl same ↦ inl same | inr gained ↦ inr (gained.2, ap answer_status gained.0.1, gained.3, gained.4) ]

lock_gains : (n : ℕ) (f : FrontState) (s : CoreState) (a : LockArgsItem) (at : Aim) (b : Bool) → does_wait s a at ≡ b → IsGood s → (let r = carried n s f (lock_plan true f s a at) in Gains s (named_by (Lock a) a.lock.caller_name) a.reclaim r.0 r.3)
lock_gains n f s a at true e good = rw e (inl refl)
lock_gains n f s a at false e good = rw e (ask_gains n (rooms f.hosts) s (lock_ask true (host_rows a.lock.caller_name f.hosts) a at) good (own_client a.lock.caller_name))

locking_gains : (n : ℕ) (f : FrontState) (s : CoreState) (a : LockArgsItem) (o : Result Aim Outcome) → IsGood s → (let r = carried n s f (at_bytes (λ at. lock_plan true f s a at) o) in Gains s (named_by (Lock a) a.lock.caller_name) a.reclaim r.0 r.3)
locking_gains n f s a (Err outcome) good = inl refl
locking_gains n f s a (Ok at) good = lock_gains n f s a at (does_wait s a at) refl good

sharing_gains : (n : ℕ) (f : FrontState) (s : CoreState) (a : ShareArgsItem) (o : Option ℕ) → IsGood s → (let r = carried n s f (on_file (λ file. asks (Some a.caller_name) f (rooms f.hosts) (share_ask (host_rows a.caller_name f.hosts) a file)) o) in Gains s (named_by (Share a) a.caller_name) a.reclaim r.0 r.3)
sharing_gains n f s a None good = inl refl
sharing_gains n f s a (Some file) good = ask_gains n (rooms f.hosts) s (share_ask (host_rows a.caller_name f.hosts) a file) good (own_client a.caller_name)

-- so it is of a call
abbrev HasGained : CoreState → CallItem → Outcome → CoreState → Type 0
HasGained s call outcome t =
    (t.stable ≡ s.stable) ⊎ ((caller : List ℕ) × (host_of call ≡ Some caller) × (monitors call ≡ true) × (reclaims call ≡ false) × (status_told call outcome ≡ Some stats.Granted) × (is_kept (named_by call caller) s.stable.names ≡ false) × (t.stable ≡ with_name (named_by call caller) s.stable))

none_gains : (n count : ℕ) (f : FrontState) (s : CoreState) (call : CallItem) → IsGood s → monitors call ≡ false → (let r = served n count f s call in HasGained s call r.0 r.3)
none_gains n count f s call good plain = inl (ap (λ (x : Aside). x.stable) (call_unmonitored n count f s call good plain))

pub call_gains : (n count : ℕ) (f : FrontState) (s : CoreState) (call : CallItem) → IsGood s → (let r = served n count f s call in HasGained s call r.0 r.3)
unfolding served planned
call_gains n count f s (Lock a) good = elim (locking_gains n f s a (aimed count a.lock) good) [ inl same ↦ inl same | inr gained ↦ inr (a.lock.caller_name, refl, refl, gained.0, ap Some gained.1, gained.2, gained.3) ]
call_gains n count f s (Share a) good = elim (sharing_gains n f s a (exported count a.fh) good) [ inl same ↦ inl same | inr gained ↦ inr (a.caller_name, refl, refl, gained.0, ap Some gained.1, gained.2, gained.3) ]
call_gains n count f s (Test a) good = none_gains n count f s (Test a) good refl
call_gains n count f s (Cancel a) good = none_gains n count f s (Cancel a) good refl
call_gains n count f s (Unlock a) good = none_gains n count f s (Unlock a) good refl
call_gains n count f s (Unshare a) good = none_gains n count f s (Unshare a) good refl
call_gains n count f s (NmLock a) good = none_gains n count f s (NmLock a) good refl
call_gains n count f s (FreeAll a) good = none_gains n count f s (FreeAll a) good refl
call_gains n count f s Null good = none_gains n count f s Null good refl
call_gains n count f s (Granted a) good = none_gains n count f s (Granted a) good refl
