-- Who is granted something, or waits, is a host then, and each host stays one.
use Rattle.std.proofs.Common.{◌≡◌, ℕ, Bool, true, false, List, [], ◌∷◌, ◌++◌, Option, Some, None, Result, Ok, Err, refl, ap, ◌∙◌, inl, inr}
use Rattle.std.proofs.lemmas.Bool.{cases_Bool}
use Rattle.std.specs.Prelude.{bytes_eq}
use Rattle.xl_base.specs.declared.journal.Exports.{Exports}
use Rattle.xl_base.specs.declared.name.Party.TheVariants as parties
use Rattle.xl_base.specs.declared.name.Protocol.TheVariants.{Nlm}
use Rattle.xl_matrix.specs.declared.claim.Claim.{Claim}
use Rattle.xl_nlm.specs.Items.{LockArgsItem, ShareArgsItem, CallItem, Null, Test, Lock, Cancel, Unlock, Granted, Share, Unshare, NmLock, FreeAll}
use Rattle.xl_names.specs.Names.{number_of}
use Rattle.xl_names.specs.declared.name.Name.TheVariants.{NlmParty}
use Rattle.xl_core.specs.Decide.{ask}
use Rattle.xl_core.specs.Deeds.{Cancels, Deed, Ends, GivesBack}
use Rattle.xl_core.specs.State.{CoreState}
use Rattle.xl_core.specs.declared.ask.Answer.{Answer}
use Rattle.xl_core.specs.declared.ask.Effect.{Effect}
use Rattle.xl_plan.proofs.PlanLaws.{kept_so}
use Rattle.xl_plan.specs.Plans.{AllKept, carried}
use Rattle.xl_front_nlm.proofs.LeftLaws.{host_came}
use Rattle.xl_front_nlm.specs.Aims.{aimed, exported}
use Rattle.xl_front_nlm.specs.Asks.{lock_ask, share_ask, test_ask, unlock_ask}
use Rattle.xl_front_nlm.specs.Grants.{news, shown, told_by}
use Rattle.xl_front_nlm.specs.Hosts.{host_rows, hosts_after, is_host, makes_host, rooms}
use Rattle.xl_front_nlm.specs.Serving.{CallPlan, asks, at_bytes, if_found, lock_plan, on_file, planned, served}
use Rattle.xl_front_nlm.specs.Standing.{does_wait, share_held, waiter_for}
use Rattle.xl_front_nlm.specs.State.{FrontState}
use Rattle.xl_front_nlm.specs.declared.aim.Aim.{Aim}
use Rattle.xl_front_nlm.specs.declared.grant.Grant.{Grant}
use Rattle.xl_front_nlm.specs.declared.outcome.Outcome.{Outcome}
use Rattle.xl_front_nlm.specs.declared.outcome.Outcome.TheVariants.{Answered, Ended, NotWaiting}

-- ---- each host stays one

behind_still : (caller other : List ℕ) (hosts : List (List ℕ)) → is_host caller hosts ≡ true → is_host caller (hosts ++ other ∷ []) ≡ true
behind_still caller other [] is = absurd cc
behind_still caller other (h ∷ hs) is =
    elim (cases_Bool (bytes_eq caller h)) [
      | inl e ↦ rw e refl
      | inr e ↦ rw e (behind_still caller other hs (rw e at is))
    ]

after_still : (caller other : List ℕ) (hosts : List (List ℕ)) (answer : Answer) → is_host caller hosts ≡ true → is_host caller (hosts_after answer other hosts) ≡ true
after_still caller other hosts answer is =
    elim (cases_Bool (makes_host answer)) [
      | inl e ↦ rw e (elim (cases_Bool (is_host other hosts)) [ inl d ↦ rw d is | inr d ↦ rw d (behind_still caller other hosts is) ])
      | inr e ↦ rw e is
    ]

module _ (f : FrontState) (s : CoreState) (caller : List ℕ) (is : is_host caller f.hosts ≡ true) where
  abbrev Still : CallPlan → Type 0
  Still plan = AllKept (λ (g : FrontState). is_host caller g.hosts ≡ true) plan

  lock_still : (monitored : Bool) (a : LockArgsItem) (at : Aim) → Still (lock_plan monitored f s a at)
  lock_still monitored a at =
      elim (cases_Bool (does_wait s a at)) [
        | inl e ↦ rw e tt
        | inr e ↦ rw e (λ answer t. after_still caller a.lock.caller_name f.hosts answer is)
      ]

  at_still : (plan : Aim → CallPlan) (r : Result Aim Outcome) → ((at : Aim) → Still (plan at)) → Still (at_bytes plan r)
  at_still plan (Err outcome) each = tt
  at_still plan (Ok at) each = each at

  file_still : (plan : ℕ → CallPlan) (o : Option ℕ) → ((file : ℕ) → Still (plan file)) → Still (on_file plan o)
  file_still plan None each = tt
  file_still plan (Some file) each = each file

  found_still : {A : Type 0} (none : Outcome) (deed : A → Deed) (o : Option A) → Still (if_found f none deed o)
  found_still none deed None = tt
  found_still none deed (Some x) = is

  call_still : (count : ℕ) (call : CallItem) → Still (planned count f s call)
  unfolding planned
  call_still count (Test a) = at_still (λ at. asks None f (rooms f.hosts) (test_ask a at)) (aimed count a.lock) (λ at answer t. is)
  call_still count (Lock a) = at_still (λ at. lock_plan true f s a at) (aimed count a.lock) (lock_still true a)
  call_still count (Cancel a) = at_still (λ at. if_found f NotWaiting (λ id. Cancels id) (waiter_for s a.lock a.exclusive at)) (aimed count a.lock) (λ at. found_still NotWaiting (λ id. Cancels id) (waiter_for s a.lock a.exclusive at))
  call_still count (Unlock a) = at_still (λ at. asks None f (rooms f.hosts) (unlock_ask a at)) (aimed count a.lock) (λ at answer t. is)
  call_still count (Share a) = file_still (λ file. asks (Some a.caller_name) f (rooms f.hosts) (share_ask (host_rows a.caller_name f.hosts) a file)) (exported count a.fh) (λ file answer t. after_still caller a.caller_name f.hosts answer is)
  call_still count (Unshare a) = file_still (λ file. if_found f Ended (λ claim. GivesBack claim) (share_held s a file)) (exported count a.fh) (λ file. found_still Ended (λ claim. GivesBack claim) (share_held s a file))
  call_still count (NmLock a) = at_still (λ at. lock_plan false f s a at) (aimed count a.lock) (lock_still false a)
  call_still count (FreeAll a) = found_still Ended (λ number. Ends (parties.Name Nlm number)) (number_of (NlmParty a.name) s.names)
  call_still count Null = tt
  call_still count (Granted a) = tt

pub hosts_stay : (n count : ℕ) (f : FrontState) (s : CoreState) (call : CallItem) (caller : List ℕ) → is_host caller f.hosts ≡ true → is_host caller (served n count f s call).2.hosts ≡ true
unfolding served
hosts_stay n count f s call caller is = kept_so (λ (g : FrontState). is_host caller g.hosts ≡ true) n s f (planned count f s call) is (call_still f s caller is count call)

pub shown_hosts : (exports : Exports) (f : FrontState) (s : CoreState) (effect : Effect) → (shown exports f s effect).1.hosts ≡ f.hosts
unfolding shown
shown_hosts exports f s effect = by (news exports s effect)
  where
    by : (told : Option (Claim × Grant × List ℕ)) → (told_by f s told).1.hosts ≡ f.hosts
    by None = refl
    by (Some told) = refl

-- ---- who is granted something, or waits

same_answers : (answer other : Answer) → Answered answer ≡ Answered other → answer ≡ other
same_answers answer other e = cc

comes_after : (caller : List ℕ) (hosts : List (List ℕ)) (answer : Answer) → makes_host answer ≡ true → is_host caller (hosts_after answer caller hosts) ≡ true
comes_after caller hosts answer makes = rw makes (host_came caller hosts)

lock_comes : (monitored : Bool) (n : ℕ) (f : FrontState) (s : CoreState) (a : LockArgsItem) (at : Aim) (answer : Answer) → (let r = carried n s f (lock_plan monitored f s a at) in r.0 ≡ Answered answer → makes_host answer ≡ true → is_host a.lock.caller_name r.2.hosts ≡ true)
lock_comes monitored n f s a at answer =
    let given : Answer = (ask n (rooms f.hosts) s (lock_ask monitored (host_rows a.lock.caller_name f.hosts) a at)).0 in
    elim (cases_Bool (does_wait s a at)) [
      | inl e ↦ rw e (λ told makes. absurd cc)
      | inr e ↦ rw e (λ told makes. ap (λ (x : Answer). is_host a.lock.caller_name (hosts_after x a.lock.caller_name f.hosts)) (same_answers given answer told) ∙ comes_after a.lock.caller_name f.hosts answer makes)
    ]

pub lockers_come : (n count : ℕ) (f : FrontState) (s : CoreState) (a : LockArgsItem) (at : Aim) (answer : Answer) → aimed count a.lock ≡ Ok at → (let r = served n count f s (Lock a) in r.0 ≡ Answered answer → makes_host answer ≡ true → is_host a.lock.caller_name r.2.hosts ≡ true)
unfolding served planned
lockers_come n count f s a at answer e = rw e (lock_comes true n f s a at answer)

pub nm_lockers_come : (n count : ℕ) (f : FrontState) (s : CoreState) (a : LockArgsItem) (at : Aim) (answer : Answer) → aimed count a.lock ≡ Ok at → (let r = served n count f s (NmLock a) in r.0 ≡ Answered answer → makes_host answer ≡ true → is_host a.lock.caller_name r.2.hosts ≡ true)
unfolding served planned
nm_lockers_come n count f s a at answer e = rw e (lock_comes false n f s a at answer)

pub sharers_come : (n count : ℕ) (f : FrontState) (s : CoreState) (a : ShareArgsItem) (file : ℕ) (answer : Answer) → exported count a.fh ≡ Some file → (let r = served n count f s (Share a) in r.0 ≡ Answered answer → makes_host answer ≡ true → is_host a.caller_name r.2.hosts ≡ true)
unfolding served planned
sharers_come n count f s a file answer e =
    let given : Answer = (ask n (rooms f.hosts) s (share_ask (host_rows a.caller_name f.hosts) a file)).0 in
    rw e (λ told makes. ap (λ (x : Answer). is_host a.caller_name (hosts_after x a.caller_name f.hosts)) (same_answers given answer told) ∙ comes_after a.caller_name f.hosts answer makes)
