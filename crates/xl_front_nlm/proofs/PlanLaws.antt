-- What a call's plan is, and what it comes to.
use Rattle.std.proofs.Common.{◌≡◌, ℕ, Bool, true, false, if◌then◌else◌, List, [], ◌++◌, Option, Some, None, Result, Ok, Err, refl, sym, ap, subst, ◌∙◌, option_map, append-nil}
use Rattle.xl_names.specs.Names.{number_of}
use Rattle.xl_names.specs.declared.name.Name.{Name}
use Rattle.xl_names.specs.declared.name.Name.TheVariants.{NlmParty}
use Rattle.xl_nlm.specs.Arguments.{CallFits, lock, test_args, lock_args, unlock_args}
use Rattle.xl_nlm.specs.Items.{LockArgsItem, CallItem, Null, Test, Lock, Cancel, Unlock, Granted, Share, Unshare, NmLock, FreeAll}
use Rattle.xl_wait.specs.declared.waiter.Rooms.{Rooms}
use Rattle.xl_core.specs.Clients.{IsOfSome}
use Rattle.xl_core.specs.Decide.{Answered as AskAnswered, ask}
use Rattle.xl_core.specs.Deeds.{Deed, Asks, GivesBack, Cancels, Ends, Given, given, answers_of, IsFitDeed, AreFit}
use Rattle.xl_core.specs.Good.{IsGood}
use Rattle.xl_core.specs.State.{CoreState}
use Rattle.xl_core.specs.declared.ask.Answer.{Answer}
use Rattle.xl_core.specs.declared.ask.Ask.{Ask}
use Rattle.xl_core.specs.declared.ask.Effect.{Effect}
use Rattle.xl_base.specs.declared.name.Party.TheVariants as parties
use Rattle.xl_base.specs.declared.name.Protocol.TheVariants.{Nlm}
use Rattle.xl_plan.specs.Answers.{by_answers}
use Rattle.xl_plan.specs.Budgets.{IsAskOf}
use Rattle.xl_plan.specs.Plans.{Tells, Asking, deeds_of, carried, AllDeeds}
use Rattle.xl_front_nlm.proofs.AimLaws.{aim_real}
use Rattle.xl_front_nlm.proofs.AskLaws.{own_client}
use Rattle.xl_front_nlm.proofs.OwnLaws.{cancel_own, share_own, waits, share_fits}
use Rattle.xl_front_nlm.proofs.StepLaws.{lock_has_room, share_has_room, fresh_room}
use Rattle.xl_front_nlm.specs.Aims.{exported, aimed}
use Rattle.xl_front_nlm.specs.Asks.{owner_of, share_owner, test_ask, lock_ask, unlock_ask, share_ask}
use Rattle.xl_front_nlm.specs.Hosts.{rooms, host_rows, HasHostRoom}
use Rattle.xl_front_nlm.specs.Serving.{CallPlan, asks, does, at_bytes, on_file, if_found, planned, host_of, hosted, served, client_of}
use Rattle.xl_front_nlm.specs.Short.{IsShort}
use Rattle.xl_front_nlm.specs.Standing.{does_wait, waiter_for, share_held}
use Rattle.xl_front_nlm.specs.State.{FrontState}
use Rattle.xl_front_nlm.specs.declared.aim.Aim.{Aim}
use Rattle.xl_front_nlm.specs.declared.outcome.Outcome.{Outcome}
use Rattle.xl_front_nlm.specs.declared.outcome.Outcome.TheVariants.{Waits, Answered, Ended, Nothing}

-- ---- what is asked and done for a call

-- the core takes the deed, and it is this client's
pub record IsFor (s : CoreState) (client : Option Name) (deed : Deed) : Type 0 where
  pub fit : IsFitDeed s deed
  pub own : IsGood s → IsOfSome s client deed

-- so it is with what is asked; its names are short where the arguments fit, and there is room for its host
pub record IsAskFor (n : ℕ) (f : FrontState) (s : CoreState) (client : Option Name) (host : Option (List ℕ)) (Fits : Type 0) (a : Ask) : Type 0 where
  pub is : IsFor s client (Asks (rooms f.hosts) a)
  pub short : Fits → IsAskOf IsShort a
  pub room : HasHostRoom host (ask n (rooms f.hosts) s a).0 f.hosts

lock_for : (monitored : Bool) (n count : ℕ) (f : FrontState) (s : CoreState) (a : LockArgsItem) (at : Aim) → aimed count a.lock ≡ Ok at
    → IsAskFor n f s (Some (NlmParty a.lock.caller_name)) (Some a.lock.caller_name) (lock_args.Fit a) (lock_ask monitored (host_rows a.lock.caller_name f.hosts) a at)
unfolding lock_args lock
lock_for monitored n count f s a at e =
    let caller = a.lock.caller_name in
    let rows = host_rows caller f.hosts in
    record {
      is = record { fit = record { act = (aim_real count a.lock at e, tt); own = refl; party = own_client caller; wish = refl }; own = λ good. refl };
      short = λ fits. ((fits.1.1.1.0.0, fits.1.1.1.0.1.1.0), tt);
      room = λ makes fresh. fresh_room caller f.hosts rows refl (lock_has_room monitored n (rooms f.hosts) rows s a at makes) fresh;
    }

-- ---- what holds of each ask and of each deed holds of each call's plan

module _ (P : CallPlan → Type 0) (told : (outcome : Outcome) → P (Tells outcome)) where
  by_bytes : (plan : Aim → CallPlan) (r : Result Aim Outcome) → ((at : Aim) → r ≡ Ok at → P (plan at)) → P (at_bytes plan r)
  by_bytes plan (Err outcome) each = told outcome
  by_bytes plan (Ok at) each = each at refl

  by_file : (plan : ℕ → CallPlan) (o : Option ℕ) → ((file : ℕ) → P (plan file)) → P (on_file plan o)
  by_file plan None each = told _
  by_file plan (Some file) each = each file

  by_found : {A : Type 0} (f : FrontState) (none : Outcome) (deed : A → Deed) (o : Option A) → ((x : A) → o ≡ Some x → P (does f (deed x))) → P (if_found f none deed o)
  by_found f none deed None each = told none
  by_found f none deed (Some x) each = each x refl

  by_wait : (plan : CallPlan) (b : Bool) → P plan → P (if b then Tells Waits else plan)
  by_wait plan true asked = told Waits
  by_wait plan false asked = asked

  pub by_call : (n count : ℕ) (f : FrontState) (s : CoreState) (call : CallItem) → ((a : Ask) → IsAskFor n f s (client_of call) (host_of call) (CallFits call) a → P (asks (host_of call) f (rooms f.hosts) a))
      → ((deed : Deed) → IsFor s (client_of call) deed → P (does f deed)) → P (planned count f s call)
  unfolding planned test_args unlock_args lock
  by_call n count f s Null asked done = told Nothing
  by_call n count f s (Test a) asked done =
      by_bytes _ (aimed count a.lock)
      (λ at e. asked (test_ask a at)
      (record { is = record { fit = record { act = aim_real count a.lock at e; own = refl; party = own_client a.lock.caller_name; wish = refl }; own = λ good. refl }; short = λ fits. ((fits.1.1.0, fits.1.1.1.1.0), tt); room = tt }))
  by_call n count f s (Lock a) asked done = by_bytes _ (aimed count a.lock) (λ at e. by_wait _ (does_wait s a at) (asked _ (lock_for true n count f s a at e)))
  by_call n count f s (Cancel a) asked done =
      by_bytes _ (aimed count a.lock)
      (λ at e. by_found f _ (λ id. Cancels id) (waiter_for s a.lock a.exclusive at)
      (λ id k. done (Cancels id) (record { fit = waits s at a.exclusive (number_of (owner_of a.lock) s.names) id k; own = λ good. cancel_own s a.lock a.exclusive at (number_of (owner_of a.lock) s.names) id good refl k })))
  by_call n count f s (Unlock a) asked done =
      by_bytes _ (aimed count a.lock)
      (λ at e. asked (unlock_ask a at)
      (record { is = record { fit = record { act = aim_real count a.lock at e; own = refl; party = own_client a.lock.caller_name; wish = refl }; own = λ good. refl }; short = λ fits. ((fits.1.0, fits.1.1.1.0), tt); room = tt }))
  by_call n count f s (Granted a) asked done = told Nothing
  by_call n count f s (Share a) asked done =
      let rows = host_rows a.caller_name f.hosts in
      by_file _ (exported count a.fh)
      (λ file. asked (share_ask rows a file) (record {
        is = record { fit = record { act = tt; own = refl; party = own_client a.caller_name; wish = tt }; own = λ good. refl };
        short = λ fits. (tt, tt);
        room = λ makes fresh. fresh_room a.caller_name f.hosts rows refl (share_has_room n (rooms f.hosts) rows s a file makes) fresh;
      }))
  by_call n count f s (Unshare a) asked done =
      by_file _ (exported count a.fh)
      (λ file. by_found f _ (λ claim. GivesBack claim) (share_held s a file)
      (λ claim k. done (GivesBack claim) (record { fit = share_fits s file (number_of (share_owner a) s.names) claim k; own = λ good. share_own s a file (number_of (share_owner a) s.names) claim good refl k })))
  by_call n count f s (NmLock a) asked done = by_bytes _ (aimed count a.lock) (λ at e. by_wait _ (does_wait s a at) (asked _ (lock_for false n count f s a at e)))
  by_call n count f s (FreeAll a) asked done =
      by_found f _ (λ number. Ends (parties.Name Nlm number)) (number_of (NlmParty a.name) s.names)
      (λ number k. done _ (record { fit = tt; own = λ good. ap (λ (o : Option ℕ). option_map (λ i. parties.Name Nlm i) o) k }))

-- the core takes its deeds
pub call_takes : (n count : ℕ) (f : FrontState) (s : CoreState) (call : CallItem) → AreFit n s (deeds_of n s (planned count f s call))
call_takes n count f s call = by_call (λ p. AreFit n s (deeds_of n s p)) (λ outcome. tt) n count f s call (λ a k. (k.is.fit, tt)) (λ deed k. (k.fit, tt))

-- they are the client's that the call names
pub call_own : (n count : ℕ) (f : FrontState) (s : CoreState) (call : CallItem) → IsGood s → AllDeeds (λ t d. IsOfSome t (client_of call) d) n s (planned count f s call)
call_own n count f s call good = by_call (AllDeeds (λ t d. IsOfSome t (client_of call) d) n s) (λ outcome. tt) n count f s call (λ a k. (k.is.own good, tt)) (λ deed k. (k.own good, tt))

-- and what it is told is a function of what they are answered
pub call_told : (n count : ℕ) (f : FrontState) (s : CoreState) (call : CallItem) → (let p = planned count f s call in (carried n s f p).0 ≡ (by_answers s f Ended p (answers_of n s (deeds_of n s p))).0)
call_told n count f s call = by_call (λ p. (carried n s f p).0 ≡ (by_answers s f Ended p (answers_of n s (deeds_of n s p))).0) (λ outcome. refl) n count f s call (λ a k. refl) (λ deed k. refl)

-- ---- as the code serves it

pub plan_fits : (count : ℕ) (f : FrontState) (s : CoreState) (call : CallItem) (plan : CallPlan) → planned count f s call ≡ plan → AreFit 0 s (deeds_of 0 s plan)
plan_fits count f s call plan e = subst (λ (p : CallPlan). AreFit 0 s (deeds_of 0 s p)) e (call_takes 0 count f s call)

-- the names of what is asked are short, and there is room for its host
abbrev pub AsksWell : ℕ → FrontState → CoreState → Option (List ℕ) → CallPlan → Type 0
AsksWell n f s host (Asking left a rest) = IsAskOf IsShort a × HasHostRoom host (ask n left s a).0 f.hosts
AsksWell n f s host plan = Unit {0}

pub plan_asks : (n count : ℕ) (f : FrontState) (s : CoreState) (call : CallItem) (plan : CallPlan) → CallFits call → planned count f s call ≡ plan → AsksWell n f s (host_of call) plan
plan_asks n count f s call plan fits e = subst (AsksWell n f s (host_of call)) e (by_call (AsksWell n f s (host_of call)) (λ outcome. tt) n count f s call (λ a k. (k.short fits, k.room)) (λ deed k. tt))

pub served_told : (n count : ℕ) (f : FrontState) (s : CoreState) (call : CallItem) (outcome : Outcome) (effects : List Effect) → planned count f s call ≡ Tells outcome → effects ≡ [] → served n count f s call ≡ (outcome, effects, f, s)
unfolding served
served_told n count f s call outcome effects e none = ap (carried n s f) e ∙ rw none refl

pub served_asked : (n count : ℕ) (f after : FrontState) (s new : CoreState) (call : CallItem) (left : Rooms) (a : Ask) (answer : Answer) (effects : List Effect)
    → planned count f s call ≡ asks (host_of call) f left a → ask n left s a ≡ (answer, effects, new) → after ≡ hosted (host_of call) answer f → served n count f s call ≡ (Answered answer, effects, after, new)
unfolding served
served_asked n count f after s new call left a answer effects e is noted =
    ap (carried n s f) e
    ∙ ap (λ (r : AskAnswered). (Answered r.0, r.1 ++ [], hosted (host_of call) r.0 f, r.2)) is
    ∙ (λ i. (Answered answer, append-nil effects i, (sym noted) i, new))

pub served_done : (n count : ℕ) (f : FrontState) (s new : CoreState) (call : CallItem) (deed : Deed) (effects : List Effect) → planned count f s call ≡ does f deed → given n s deed ≡ (None, effects, new) → served n count f s call ≡ (Ended, effects, f, new)
unfolding served
served_done n count f s new call deed effects e is = ap (carried n s f) e ∙ ap (λ (r : Given). (Ended, r.1 ++ [], f, r.2)) is ∙ ap (λ (told : List Effect). (Ended, told, f, new)) (append-nil effects)
