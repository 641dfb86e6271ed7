-- What a COMPOUND comes to, operation by operation.
use Rattle.std.proofs.Common.{◌≡◌, ℕ, zero, suc, ◌-◌, Bool, true, false, Result, Ok, Err, List, [], ◌∷◌, ◌++◌, Option, refl, sym, ap, subst, ◌∙◌, arith, append-nil}
use Rattle.xl_nfs.specs.Ops.{OpItem, OpFits, op_number, op_at}
use Rattle.xl_core.specs.State.{CoreState}
use Rattle.xl_core.specs.declared.ask.Effect.{Effect}
use Rattle.xl_nfs_state.specs.State.{NfsLists}
use Rattle.xl_plan.specs.Plans as plans
use Rattle.xl_plan.specs.Plans.{told_behind}
use Rattle.xl_plan.proofs.BindLaws.{behind_behind, within_carries}
use Rattle.xl_plan.proofs.RowLaws.{row_goes, row_stops}
use Rattle.xl_nfs_opens.specs.Plans.{Outcome, carried}
use Rattle.xl_nfs_opens.specs.Results.{ToldFits}
use Rattle.xl_front_nfs.specs.Steps.{planned, Step, Runs, Course, noted, step_plan, goes_on, compound, fault_of, step_then, steps_in}
use Rattle.xl_rpc.specs.Xdr.{unsigned_at}
use Rattle.xl_rpc.specs.declared.fault.RpcBad.{RpcBad}
use Rattle.xl_nfs_opens.specs.declared.told.Told.{Told}
use Rattle.xl_front_nfs.proofs.PlanLaws.{plan_well, number_small}

-- what a COMPOUND was told, what the core told of besides, what is remembered of the clients, and the core
abbrev pub Came : Type 0
Came = plans.Outcome NfsLists Course

-- ---- one operation

pub told_fits_op : (n : ℕ) (files : List (List ℕ)) (others : ℕ) (s new : CoreState) (l lists : NfsLists) (current handle : Option ℕ) (item : OpItem) (number : ℕ) (told : Told) (effects : List Effect) → OpFits item → number ≡ op_number item
    → carried n s l (planned files others s l current item) ≡ (told, handle, effects, lists, new) → ToldFits number told
told_fits_op n files others s new l lists current handle item number told effects fits is e =
    rw is (subst (λ (t : Told). ToldFits (op_number item) t) (ap (λ (r : Outcome). r.0) e) (plan_well n files others s l current item (number_small item fits)).0)

pub op_ran : (n : ℕ) (files : List (List ℕ)) (others : ℕ) (c next : Course) (s new : CoreState) (l lists : NfsLists) (handle : Option ℕ) (item : OpItem) (number : ℕ) (told : Told) (before effects all : List Effect) → number ≡ op_number item
    → carried n s l (planned files others s l c.current item) ≡ (told, handle, effects, lists, new) → next ≡ noted c number (told, handle) → all ≡ before ++ effects
    → told_behind before (plans.carried n s l (step_plan files others c s l (Runs item))) ≡ (next, all, lists, new)
unfolding step_plan
op_ran n files others c next s new l lists handle item number told before effects all is e kept behind =
    ap (told_behind before) (within_carries n s l (λ m. m) (λ t m. (noted c (op_number item) t, m)) (planned files others s l c.current item))
    ∙ ap (λ (r : Outcome). told_behind before (noted c (op_number item) (r.0, r.1), r.2, r.3, r.4)) e
    ∙ ap (λ (m : ℕ). told_behind before (noted c m (told, handle), effects, lists, new)) (sym is)
    ∙ ap (λ (d : Course). told_behind before (d, effects, lists, new)) (sym kept)
    ∙ ap (λ (x : List Effect). (next, x, lists, new)) (sym behind)

-- ---- operations in a row

one_less : (count : ℕ) → suc count - 1 ≡ count
one_less count = omega arith

-- the next one is read
pub next_read : (count : ℕ) (bytes rest : List ℕ) (item : OpItem) → (count ≡ 0 → ⊥) → op_at bytes ≡ Ok (item, rest) → steps_in count bytes ≡ Runs item ∷ steps_in (count - 1) rest
next_read zero bytes rest item some read = absurd (some refl)
next_read (suc count) bytes rest item some read =
    ap (λ (r : Result (OpItem × List ℕ) RpcBad). step_then (steps_in count) bytes r) read
    ∙ ap (λ (m : ℕ). Runs item ∷ steps_in m rest) (sym (one_less count))

-- it can't be read
next_unread : (count : ℕ) (bytes : List ℕ) (fault : RpcBad) → (count ≡ 0 → ⊥) → op_at bytes ≡ Err fault → steps_in count bytes ≡ fault_of (unsigned_at bytes) ∷ []
next_unread zero bytes fault some unread = absurd (some refl)
next_unread (suc count) bytes fault some unread = ap (λ (r : Result (OpItem × List ℕ) RpcBad). step_then (steps_in count) bytes r) unread

-- the first ends it
course_stops : (n : ℕ) (files : List (List ℕ)) (others : ℕ) (c : Course) (s : CoreState) (l : NfsLists) (before : List Effect) (step : Step) (steps all : List Step) (r : Came) → all ≡ step ∷ steps
    → told_behind before (plans.carried n s l (step_plan files others c s l step)) ≡ r → goes_on r.0 ≡ false → told_behind before (plans.carried n s l (compound files others c s l all)) ≡ r
course_stops n files others c s l before step steps all r are did off =
    ap (λ (x : List Step). told_behind before (plans.carried n s l (compound files others c s l x))) are
    ∙ ap (told_behind before) (row_stops (step_plan files others) goes_on n c s l step steps (ap (λ (x : Came). goes_on x.0) did ∙ off))
    ∙ did

-- there is none
pub course_none : (n : ℕ) (files : List (List ℕ)) (others : ℕ) (c : Course) (s : CoreState) (l : NfsLists) (before : List Effect) (count : ℕ) (bytes : List ℕ) → count ≡ 0 → told_behind before (plans.carried n s l (compound files others c s l (steps_in count bytes))) ≡ (c, before, l, s)
course_none n files others c s l before count bytes none =
    ap (λ (m : ℕ). told_behind before (plans.carried n s l (compound files others c s l (steps_in m bytes)))) none
    ∙ ap (λ (x : List Effect). (c, x, l, s)) (append-nil before)

-- the first can't be read
pub course_unread : (n : ℕ) (files : List (List ℕ)) (others : ℕ) (c next : Course) (s : CoreState) (l : NfsLists) (before after : List Effect) (count : ℕ) (bytes : List ℕ) (fault : RpcBad) → (count ≡ 0 → ⊥) → op_at bytes ≡ Err fault
    → plans.carried n s l (step_plan files others c s l (fault_of (unsigned_at bytes))) ≡ (next, [], l, s) → after ≡ before → goes_on next ≡ false
    → told_behind before (plans.carried n s l (compound files others c s l (steps_in count bytes))) ≡ (next, after, l, s)
course_unread n files others c next s l before after count bytes fault some unread did same ends =
    course_stops n files others c s l before (fault_of (unsigned_at bytes)) [] (steps_in count bytes) (next, after, l, s) (next_unread count bytes fault some unread)
    (ap (told_behind before) did ∙ ap (λ (x : List Effect). (next, x, l, s)) (append-nil before ∙ sym same)) ends

-- the first is read, and ends it
pub course_ends : (n : ℕ) (files : List (List ℕ)) (others : ℕ) (c next : Course) (s new : CoreState) (l lists : NfsLists) (before after : List Effect) (count : ℕ) (bytes rest : List ℕ) (item : OpItem) (more : Bool) → (count ≡ 0 → ⊥) → op_at bytes ≡ Ok (item, rest)
    → told_behind before (plans.carried n s l (step_plan files others c s l (Runs item))) ≡ (next, after, lists, new) → more ≡ goes_on next → more ≡ false
    → told_behind before (plans.carried n s l (compound files others c s l (steps_in count bytes))) ≡ (next, after, lists, new)
course_ends n files others c next s new l lists before after count bytes rest item more some read did on ends =
    course_stops n files others c s l before (Runs item) (steps_in (count - 1) rest) (steps_in count bytes) (next, after, lists, new) (next_read count bytes rest item some read) did (sym on ∙ ends)

-- others are done behind the first
pub course_goes : (n : ℕ) (files : List (List ℕ)) (others : ℕ) (c : Course) (s : CoreState) (l : NfsLists) (before : List Effect) (step : Step) (steps all : List Step) (mid r : Came) → all ≡ step ∷ steps
    → told_behind before (plans.carried n s l (step_plan files others c s l step)) ≡ mid → goes_on mid.0 ≡ true → told_behind mid.1 (plans.carried n mid.3 mid.2 (compound files others mid.0 mid.3 mid.2 steps)) ≡ r
    → told_behind before (plans.carried n s l (compound files others c s l all)) ≡ r
course_goes n files others c s l before step steps all mid r are did on later =
    let x : Came = plans.carried n s l (step_plan files others c s l step) in
    ap (λ (y : List Step). told_behind before (plans.carried n s l (compound files others c s l y))) are
    ∙ ap (told_behind before) (row_goes (step_plan files others) goes_on n c s l step steps (ap (λ (y : Came). goes_on y.0) did ∙ on))
    ∙ behind_behind before x.1 (plans.carried n x.3 x.2 (compound files others x.0 x.3 x.2 steps))
    ∙ ap (λ (y : Came). told_behind y.1 (plans.carried n y.3 y.2 (compound files others y.0 y.3 y.2 steps))) did
    ∙ later
