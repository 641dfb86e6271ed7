-- What plans in a row come to, and what they keep.
use Rattle.std.proofs.Common.{◌≡◌, ℕ, Bool, true, false, if◌then◌else◌, List, [], ◌∷◌, ◌++◌, sym, ap, subst, ◌∙◌, append-nil}
use Rattle.xl_core.specs.Deeds.{Deed}
use Rattle.xl_core.specs.State.{CoreState}
use Rattle.xl_core.specs.declared.ask.Effect.{Effect}
use Rattle.xl_plan.specs.Plans.{Plan, Tells, Outcome, deeds_of, told_behind, carried, AllDeeds}
use Rattle.xl_plan.specs.Rows.{row}
use Rattle.xl_plan.proofs.BindLaws.{bind_carries, bind_does, bind_all}

-- what stands behind the first, which came to this
abbrev Rest : Type 0 → Type 0 → Type 0
Rest F T = T → CoreState → F → Plan F T

-- where others go on behind the first, they come to what they come to behind it
pub row_goes : {F T Op : Type 0} (plan : T → CoreState → F → Op → Plan F T) (goes : T → Bool) (n : ℕ) (told : T) (s : CoreState) (f : F) (op : Op) (ops : List Op) → (let r = carried n s f (plan told s f op) in goes r.0 ≡ true
    → carried n s f (row plan goes told s f (op ∷ ops)) ≡ told_behind r.1 (carried n r.3 r.2 (row plan goes r.0 r.3 r.2 ops)))
row_goes plan goes n told s f op ops = λ on.
    let r = carried n s f (plan told s f op) in
    bind_carries n s f (plan told s f op) (λ u t g. if goes u then row plan goes u t g ops else Tells u)
    ∙ ap (λ (b : Bool). told_behind r.1 (carried n r.3 r.2 (if b then row plan goes r.0 r.3 r.2 ops else Tells r.0))) on

-- where none does it comes to what the first comes to
pub row_stops : {F T Op : Type 0} (plan : T → CoreState → F → Op → Plan F T) (goes : T → Bool) (n : ℕ) (told : T) (s : CoreState) (f : F) (op : Op) (ops : List Op) → (let r = carried n s f (plan told s f op) in goes r.0 ≡ false
    → carried n s f (row plan goes told s f (op ∷ ops)) ≡ r)
row_stops plan goes n told s f op ops = λ off.
    let r = carried n s f (plan told s f op) in
    bind_carries n s f (plan told s f op) (λ u t g. if goes u then row plan goes u t g ops else Tells u)
    ∙ ap (λ (b : Bool). told_behind r.1 (carried n r.3 r.2 (if b then row plan goes r.0 r.3 r.2 ops else Tells r.0))) off
    ∙ ap (λ (x : List Effect). (r.0, x, r.2, r.3)) (append-nil r.1)

-- and does what the first does
pub row_ends : {F T Op : Type 0} (plan : T → CoreState → F → Op → Plan F T) (goes : T → Bool) (n : ℕ) (told : T) (s : CoreState) (f : F) (op : Op) (ops : List Op) → goes (carried n s f (plan told s f op)).0 ≡ false
    → deeds_of n s (row plan goes told s f (op ∷ ops)) ≡ deeds_of n s (plan told s f op)
row_ends plan goes n told s f op ops off =
    let r = carried n s f (plan told s f op) in
    bind_does n s f (plan told s f op) (λ u t g. if goes u then row plan goes u t g ops else Tells u)
    ∙ ap (λ (b : Bool). deeds_of n s (plan told s f op) ++ deeds_of n r.3 (if b then row plan goes r.0 r.3 r.2 ops else Tells r.0)) off
    ∙ append-nil (deeds_of n s (plan told s f op))

-- ---- what holds of each deed of a row, and what it keeps

-- this is kept of the core and of the front
abbrev pub Kept : {F T : Type 0} → (CoreState → F → Type 0) → Outcome F T → Type 0
Kept J r = J r.3 r.2

next_all : {F T Op : Type 0} (plan : T → CoreState → F → Op → Plan F T) (goes : T → Bool) (J : CoreState → F → Type 0) (P : CoreState → Deed → Type 0) (n : ℕ) (r : Outcome F T) (ops : List Op) (on : Bool) → Kept J r
    → AllDeeds P n r.3 (row plan goes r.0 r.3 r.2 ops) × Kept J (carried n r.3 r.2 (row plan goes r.0 r.3 r.2 ops))
    → (let p = if on then row plan goes r.0 r.3 r.2 ops else Tells r.0 in AllDeeds P n r.3 p × Kept J (carried n r.3 r.2 p))
next_all plan goes J P n r ops true kept rest = rest
next_all plan goes J P n r ops false kept rest = (tt, kept)

-- where each operation keeps J, and P holds of each of its deeds where J does, so it is with the row
pub row_all : {F T Op : Type 0} (plan : T → CoreState → F → Op → Plan F T) (goes : T → Bool) (J : CoreState → F → Type 0) (P : CoreState → Deed → Type 0) (n : ℕ) (told : T) (s : CoreState) (f : F) (ops : List Op)
    → ((u : T) (t : CoreState) (g : F) (op : Op) → J t g → AllDeeds P n t (plan u t g op) × Kept J (carried n t g (plan u t g op))) → J s f → AllDeeds P n s (row plan goes told s f ops) × Kept J (carried n s f (row plan goes told s f ops))
row_all plan goes J P n told s f [] each holds = (tt, holds)
row_all {F} {T} plan goes J P n told s f (op ∷ ops) each holds =
    let r = carried n s f (plan told s f op) in
    let one = each told s f op holds in
    let next : Rest F T = λ u t g. if goes u then row plan goes u t g ops else Tells u in
    let rest = next_all plan goes J P n r ops (goes r.0) one.1 (row_all plan goes J P n r.0 r.3 r.2 ops each one.1) in
    (bind_all P n s f (plan told s f op) next one.0 rest.0, subst (Kept J) (sym (bind_carries n s f (plan told s f op) next)) rest.1)

-- and what each keeps alone the row keeps
pub row_keeps : {F T Op : Type 0} (plan : T → CoreState → F → Op → Plan F T) (goes : T → Bool) (J : CoreState → F → Type 0) (n : ℕ) (told : T) (s : CoreState) (f : F) (ops : List Op)
    → ((u : T) (t : CoreState) (g : F) (op : Op) → J t g → Kept J (carried n t g (plan u t g op))) → J s f → Kept J (carried n s f (row plan goes told s f ops))
row_keeps plan goes J n told s f [] each holds = holds
row_keeps plan goes J n told s f (op ∷ ops) each holds =
    let r = carried n s f (plan told s f op) in
    let one = each told s f op holds in
    subst (Kept J) (sym (bind_carries n s f (plan told s f op) (λ u t g. if goes u then row plan goes u t g ops else Tells u)))
    (by (goes r.0) (row_keeps plan goes J n r.0 r.3 r.2 ops each one) one)
  where
    by : (on : Bool) → (let r = carried n s f (plan told s f op) in Kept J (carried n r.3 r.2 (row plan goes r.0 r.3 r.2 ops)) → Kept J r → Kept J (carried n r.3 r.2 (if on then row plan goes r.0 r.3 r.2 ops else Tells r.0)))
    by true rest kept = rest
    by false rest kept = kept
