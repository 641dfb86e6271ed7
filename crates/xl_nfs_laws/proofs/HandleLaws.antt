-- The current handle, and what is done behind an operation that failed.
use Rattle.std.proofs.Common.{◌≡◌, ℕ, Bool, true, false, not, List, ◌∷◌, Option, refl, sym, ap, arith}
use Rattle.std.proofs.lemmas.Bool.{true≢false}
use Rattle.std.specs.Prelude.{◌↔◌}
use Rattle.xl_base.proofs.Members.{in_filter, in_filter_from}
use Rattle.xl_base.specs.Lists.{IsIn}
use Rattle.xl_base.specs.declared.event.Moment.{Moment}
use Rattle.xl_nfs.specs.Ops.{OpItem, Close, DelegReturn, GetFh, Lock, LockT, LockU, Lookup, Open, OpenConfirm, OpenDowngrade, PutFh, PutRootFh, Renew, SetClientId, SetClientIdConfirm, ReleaseLockOwner, NotSupported, Illegal}
use Rattle.xl_nfs.specs.Outcomes.{is_ok}
use Rattle.xl_nfs_state.specs.State.{NfsLists, is_due}
use Rattle.xl_nfs_state.specs.declared.client.ClientRow.{ClientRow}
use Rattle.xl_core.specs.State.{CoreState}
use Rattle.xl_plan.specs.Plans as plans
use Rattle.xl_plan.proofs.RowLaws.{row_stops, row_ends}
use Rattle.xl_nfs_opens.specs.Plans.{carried, status_of}
use Rattle.xl_front_nfs.specs.State.{FrontNfs, nfs_tick}
use Rattle.xl_front_nfs.specs.Steps.{planned, Step, Course, step_plan, goes_on, compound}
use Rattle.xl_front_nfs.proofs.PlanLaws.{plan_well}

-- ---- an operation that isn't OK leaves the current handle

pub handle_stays : (n : ℕ) (files : List (List ℕ)) (others : ℕ) (s : CoreState) (l : NfsLists) (current : Option ℕ) (item : OpItem) → is_ok (status_of (carried n s l (planned files others s l current item)).0) ≡ false → (carried n s l (planned files others s l current item)).1 ≡ current
unfolding planned
handle_stays n files others s l current PutRootFh = (plan_well n files others s l current PutRootFh (omega arith)).1
handle_stays n files others s l current (PutFh fh) = (plan_well n files others s l current (PutFh fh) (omega arith)).1
handle_stays n files others s l current GetFh = (plan_well n files others s l current GetFh (omega arith)).1
handle_stays n files others s l current (Lookup name) = (plan_well n files others s l current (Lookup name) (omega arith)).1
handle_stays n files others s l current (SetClientId a) = (plan_well n files others s l current (SetClientId a) (omega arith)).1
handle_stays n files others s l current (SetClientIdConfirm a) = (plan_well n files others s l current (SetClientIdConfirm a) (omega arith)).1
handle_stays n files others s l current (Renew clientid) = (plan_well n files others s l current (Renew clientid) (omega arith)).1
handle_stays n files others s l current (Open a) = (plan_well n files others s l current (Open a) (omega arith)).1
handle_stays n files others s l current (OpenConfirm a) = (plan_well n files others s l current (OpenConfirm a) (omega arith)).1
handle_stays n files others s l current (OpenDowngrade a) = (plan_well n files others s l current (OpenDowngrade a) (omega arith)).1
handle_stays n files others s l current (Close a) = (plan_well n files others s l current (Close a) (omega arith)).1
handle_stays n files others s l current (DelegReturn stateid) = (plan_well n files others s l current (DelegReturn stateid) (omega arith)).1
handle_stays n files others s l current (Lock a) = (plan_well n files others s l current (Lock a) (omega arith)).1
handle_stays n files others s l current (LockT a) = (plan_well n files others s l current (LockT a) (omega arith)).1
handle_stays n files others s l current (LockU a) = (plan_well n files others s l current (LockU a) (omega arith)).1
handle_stays n files others s l current (ReleaseLockOwner a) = (plan_well n files others s l current (ReleaseLockOwner a) (omega arith)).1
handle_stays n files others s l current (NotSupported number) = λ _. refl
handle_stays n files others s l current (Illegal number) = λ _. refl

-- ---- nothing is done behind an operation that failed

pub nothing_behind : (n : ℕ) (files : List (List ℕ)) (others : ℕ) (c : Course) (s : CoreState) (l : NfsLists) (step : Step) (steps : List Step) → goes_on (plans.carried n s l (step_plan files others c s l step)).0 ≡ false
    → plans.carried n s l (compound files others c s l (step ∷ steps)) ≡ plans.carried n s l (step_plan files others c s l step)
nothing_behind n files others c s l step steps ends = row_stops (step_plan files others) goes_on n c s l step steps ends

pub no_deeds_behind : (n : ℕ) (files : List (List ℕ)) (others : ℕ) (c : Course) (s : CoreState) (l : NfsLists) (step : Step) (steps : List Step) → goes_on (plans.carried n s l (step_plan files others c s l step)).0 ≡ false
    → plans.deeds_of n s (compound files others c s l (step ∷ steps)) ≡ plans.deeds_of n s (step_plan files others c s l step)
no_deeds_behind n files others c s l step steps ends = row_ends (step_plan files others) goes_on n c s l step steps ends

-- ---- unconfirmed records

not_true : (b : Bool) → not b ≡ true → b ≡ false
not_true false e = refl
not_true true e = absurd (true≢false (sym e))

pub due_go : (f : FrontNfs) (now : Moment) (r : ClientRow) → IsIn r (nfs_tick f now).state.clients ↔ (IsIn r f.state.clients × (is_due now r ≡ false))
unfolding nfs_tick
due_go f now r = (
  λ in_new. (let old = in_filter_from (λ x. not (is_due now x)) r f.state.clients in_new in (old.0, not_true (is_due now r) old.1)),
  λ old. in_filter (λ x. not (is_due now x)) r f.state.clients old.0 (ap not old.1),
)
