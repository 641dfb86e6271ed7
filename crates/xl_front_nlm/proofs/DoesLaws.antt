-- A call's step is what its deeds leave, tell and answer; the core takes them, and they are the client's.
use Rattle.std.specs.Option.{option_and_then}
use Rattle.std.proofs.Common.{◌≡◌, ℕ, true, false, List, ◌++◌, length, Option, Some, None, refl, ap, ◌∙◌}
use Rattle.xl_base.specs.declared.journal.Exports.{Exports}
use Rattle.xl_nlm.specs.Items.{TestArgsItem, LockArgsItem, CallItem, Null, Lock, Granted, NmLock}
use Rattle.xl_programs.specs.Programs.{RequestItem}
use Rattle.xl_programs.specs.Sent.{sent_to}
use Rattle.xl_core.specs.Clients.{IsOfSome}
use Rattle.xl_core.specs.Good.{IsGood}
use Rattle.xl_core.specs.State.{CoreState}
use Rattle.xl_core.specs.Deeds.{all_done, all_told_of, answers_of, AreFit}
use Rattle.xl_plan.proofs.PlanLaws.{plan_does, plan_tells}
use Rattle.xl_plan.specs.Plans.{Tells, carried, AllAt}
use Rattle.xl_front_nlm.proofs.PlanLaws.{call_own, call_takes, call_told}
use Rattle.xl_front_nlm.specs.FrontNlm.{call_in, nlm_client, call_deeds, nlm_deeds, call_reply, nlm_reply, replied, nlm_step}
use Rattle.xl_front_nlm.specs.Results.{reply_of}
use Rattle.xl_nlm.specs.Replies.{results}
use Rattle.xl_rpc.specs.Replies.{reply}
use Rattle.xl_rpc.specs.declared.reply.Verdict.TheVariants.{Success}
use Rattle.xl_front_nlm.specs.Serving.{locking, planned, served, client_of}
use Rattle.xl_front_nlm.specs.State.{FrontState}
use Rattle.xl_front_nlm.specs.declared.outcome.Outcome.{Outcome}
use Rattle.xl_front_nlm.specs.declared.outcome.Outcome.TheVariants.{Nothing}

-- ---- as the code plans it

pub lock_is_monitored : (count : ℕ) (f : FrontState) (s : CoreState) (a : LockArgsItem) → planned count f s (Lock a) ≡ locking true count f s a
unfolding planned
lock_is_monitored count f s a = refl

pub nm_lock_is_not : (count : ℕ) (f : FrontState) (s : CoreState) (a : LockArgsItem) → planned count f s (NmLock a) ≡ locking false count f s a
unfolding planned
nm_lock_is_not count f s a = refl

pub null_tells_nothing : (count : ℕ) (f : FrontState) (s : CoreState) → planned count f s Null ≡ Tells Nothing
unfolding planned
null_tells_nothing count f s = refl

pub granted_tells_nothing : (count : ℕ) (f : FrontState) (s : CoreState) (a : TestArgsItem) → planned count f s (Granted a) ≡ Tells Nothing
unfolding planned
granted_tells_nothing count f s a = refl

-- ---- a call

call_does : (n count : ℕ) (f : FrontState) (s : CoreState) (xid : ℕ) (o : Option CallItem) → (replied n count f s xid o).3 ≡ all_done n s (call_deeds n count f s o)
unfolding served
call_does n count f s xid None = refl
call_does n count f s xid (Some call) = plan_does n s f (planned count f s call)

call_tells : (n count : ℕ) (f : FrontState) (s : CoreState) (xid : ℕ) (o : Option CallItem) → (replied n count f s xid o).1 ≡ all_told_of n s (call_deeds n count f s o)
unfolding served
call_tells n count f s xid None = refl
call_tells n count f s xid (Some call) = plan_tells n s f (planned count f s call)

call_replies : (n count : ℕ) (f : FrontState) (s : CoreState) (xid : ℕ) (o : Option CallItem) → (replied n count f s xid o).0 ≡ call_reply count f s (replied n count f s xid o).3.names xid o (answers_of n s (call_deeds n count f s o))
unfolding served
call_replies n count f s xid None = refl
call_replies n count f s xid (Some call) =
    ap (λ (outcome : Outcome). reply xid Success ++ results (reply_of (carried n s f (planned count f s call)).3.names call outcome)) (call_told n count f s call)

-- the step is its deeds
pub step_does : (n : ℕ) (exports : Exports) (f : FrontState) (s : CoreState) (conn : ℕ) (r : RequestItem) → (nlm_step n exports f s conn r).3 ≡ all_done n s (nlm_deeds n exports f s r)
unfolding nlm_step
step_does n exports f s conn r = call_does n (length exports.files) f s r.xid (call_in r)

pub step_tells : (n : ℕ) (exports : Exports) (f : FrontState) (s : CoreState) (conn : ℕ) (r : RequestItem) → (nlm_step n exports f s conn r).1 ≡ all_told_of n s (nlm_deeds n exports f s r)
unfolding nlm_step
step_tells n exports f s conn r = call_tells n (length exports.files) f s r.xid (call_in r)

-- its reply is a function of the call and of what these are answered
pub step_replies : (n : ℕ) (exports : Exports) (f : FrontState) (s : CoreState) (conn : ℕ) (r : RequestItem)
    → (nlm_step n exports f s conn r).0 ≡ sent_to conn (nlm_reply exports f s (all_done n s (nlm_deeds n exports f s r)).names r (answers_of n s (nlm_deeds n exports f s r)))
unfolding nlm_step
step_replies n exports f s conn r =
    ap (λ (bytes : List ℕ). sent_to conn bytes)
    (call_replies n (length exports.files) f s r.xid (call_in r)
    ∙ ap (λ (t : CoreState). nlm_reply exports f s t.names r (answers_of n s (nlm_deeds n exports f s r))) (call_does n (length exports.files) f s r.xid (call_in r)))

-- ---- the core takes its deeds, and they are the client's that the call names

call_fits : (n count : ℕ) (f : FrontState) (s : CoreState) (o : Option CallItem) → AreFit n s (call_deeds n count f s o)
call_fits n count f s None = tt
call_fits n count f s (Some call) = call_takes n count f s call

pub step_takes : (n : ℕ) (exports : Exports) (f : FrontState) (s : CoreState) (r : RequestItem) → AreFit n s (nlm_deeds n exports f s r)
step_takes n exports f s r = call_fits n (length exports.files) f s (call_in r)

call_owned : (n count : ℕ) (f : FrontState) (s : CoreState) (o : Option CallItem) → IsGood s → AllAt (λ t d. IsOfSome t (option_and_then (λ call. client_of call) o) d) n s (call_deeds n count f s o)
call_owned n count f s None good = tt
call_owned n count f s (Some call) good = call_own n count f s call good

pub step_own : (n : ℕ) (exports : Exports) (f : FrontState) (s : CoreState) (r : RequestItem) → IsGood s → AllAt (λ t d. IsOfSome t (nlm_client r) d) n s (nlm_deeds n exports f s r)
step_own n exports f s r good = call_owned n (length exports.files) f s (call_in r) good
