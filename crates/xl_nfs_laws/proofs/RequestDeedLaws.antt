-- A request's step is what its deeds leave and tell, and it keeps what each of its operations keeps.
use Rattle.std.proofs.Common.{◌≡◌, ℕ, List, Option, refl, sym, ap, subst}
use Rattle.xl_base.specs.declared.journal.Exports.{Exports}
use Rattle.xl_nfs.specs.Ops.{OpItem, op_number}
use Rattle.xl_nfs_state.specs.State.{NfsLists}
use Rattle.xl_programs.specs.Programs.{RequestItem}
use Rattle.xl_programs.specs.Sent.{sent_to}
use Rattle.xl_core.specs.Deeds.{all_done, all_told_of}
use Rattle.xl_core.specs.State.{CoreState}
use Rattle.xl_plan.specs.Plans as plans
use Rattle.xl_plan.proofs.BindLaws.{within_carries}
use Rattle.xl_plan.proofs.PlanLaws.{plan_does, plan_tells}
use Rattle.xl_plan.proofs.RowLaws.{Kept, row_keeps}
use Rattle.xl_front_nfs.specs.FrontNfs.{Called, Garbage, Null, Refused, Compound, call_in, call_deeds, nfs_deeds, call_reply, nfs_reply, replied, nfs_step}
use Rattle.xl_nfs_opens.specs.Plans.{carried}
use Rattle.xl_front_nfs.specs.State.{FrontNfs}
use Rattle.xl_front_nfs.specs.Steps.{planned, Step, Runs, Garbled, Cut, Course, begun, noted, step_plan, goes_on, compound}

-- ---- the row

step_keeps : (J : CoreState → NfsLists → Type 0) (n : ℕ) (files : List (List ℕ)) (others : ℕ) (c : Course) (s : CoreState) (l : NfsLists) (step : Step) → ((op : OpItem) → (let r = carried n s l (planned files others s l c.current op) in J r.4 r.3)) → J s l
    → Kept J (plans.carried n s l (step_plan files others c s l step))
unfolding step_plan
step_keeps J n files others c s l (Runs op) each holds = subst (λ (r : plans.Outcome NfsLists Course). J r.3 r.2) (sym (within_carries n s l (λ m. m) (λ told m. (noted c (op_number op) told, m)) (planned files others s l c.current op))) (each op)
step_keeps J n files others c s l (Garbled number) each holds = holds
step_keeps J n files others c s l Cut each holds = holds

-- it keeps what each of its operations keeps
pub compound_keeps : (J : CoreState → NfsLists → Type 0) (n : ℕ) (files : List (List ℕ)) (others : ℕ) (s : CoreState) (l : NfsLists) (steps : List Step) → ((t : CoreState) (m : NfsLists) (current : Option ℕ) (op : OpItem) → J t m → (let r = carried n t m (planned files others t m current op) in J r.4 r.3)) → J s l
    → Kept J (plans.carried n s l (compound files others begun s l steps))
compound_keeps J n files others s l steps each holds = row_keeps (step_plan files others) goes_on J n begun s l steps (λ c t m step h. step_keeps J n files others c t m step (λ op. each t m c.current op h) h) holds

-- ---- the request

call_does : (n : ℕ) (files : List (List ℕ)) (others : ℕ) (f : FrontNfs) (s : CoreState) (xid : ℕ) (call : Called) → (replied n files others f s xid call).3 ≡ all_done n s (call_deeds n files others f s call)
call_does n files others f s xid Garbage = refl
call_does n files others f s xid Null = refl
call_does n files others f s xid (Refused tag status) = refl
call_does n files others f s xid (Compound tag steps) = plan_does n s f.state (compound files others begun s f.state steps)

call_tells : (n : ℕ) (files : List (List ℕ)) (others : ℕ) (f : FrontNfs) (s : CoreState) (xid : ℕ) (call : Called) → (replied n files others f s xid call).1 ≡ all_told_of n s (call_deeds n files others f s call)
call_tells n files others f s xid Garbage = refl
call_tells n files others f s xid Null = refl
call_tells n files others f s xid (Refused tag status) = refl
call_tells n files others f s xid (Compound tag steps) = plan_tells n s f.state (compound files others begun s f.state steps)

call_replies : (n : ℕ) (files : List (List ℕ)) (others : ℕ) (f : FrontNfs) (s : CoreState) (xid : ℕ) (call : Called) → (replied n files others f s xid call).0 ≡ call_reply n files others f s xid call
call_replies n files others f s xid Garbage = refl
call_replies n files others f s xid Null = refl
call_replies n files others f s xid (Refused tag status) = refl
call_replies n files others f s xid (Compound tag steps) = refl

pub request_does : (n : ℕ) (exports : Exports) (others : ℕ) (f : FrontNfs) (s : CoreState) (conn : ℕ) (r : RequestItem) → (nfs_step n exports others f s conn r).3 ≡ all_done n s (nfs_deeds n exports others f s r)
unfolding nfs_step
request_does n exports others f s conn r = call_does n exports.files others f s r.xid (call_in r)

pub request_tells : (n : ℕ) (exports : Exports) (others : ℕ) (f : FrontNfs) (s : CoreState) (conn : ℕ) (r : RequestItem) → (nfs_step n exports others f s conn r).1 ≡ all_told_of n s (nfs_deeds n exports others f s r)
unfolding nfs_step
request_tells n exports others f s conn r = call_tells n exports.files others f s r.xid (call_in r)

pub request_replies : (n : ℕ) (exports : Exports) (others : ℕ) (f : FrontNfs) (s : CoreState) (conn : ℕ) (r : RequestItem) → (nfs_step n exports others f s conn r).0 ≡ sent_to conn (nfs_reply n exports others f s r)
unfolding nfs_step
request_replies n exports others f s conn r = ap (λ (bytes : List ℕ). sent_to conn bytes) (call_replies n exports.files others f s r.xid (call_in r))
