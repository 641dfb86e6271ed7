-- What plans come to that follow one another, and one within a larger one.
use Rattle.std.proofs.Common.{◌≡◌, ℕ, List, ◌∷◌, ◌++◌, refl, sym, ap, subst, ◌∙◌, append_assoc}
use Rattle.xl_core.specs.Decide.{ask}
use Rattle.xl_core.specs.Deeds.{Deed, Asks, all_done, all_told_of}
use Rattle.xl_core.specs.State.{CoreState}
use Rattle.xl_core.specs.declared.ask.Effect.{Effect}
use Rattle.xl_plan.specs.Plans.{Plan, Tells, Does, Behind, Asking, Outcome, deeds_of, told_behind, carried, bind, carried_next, deeds_next, within, ended_within, AllAt, AllDeeds}
use Rattle.xl_plan.proofs.PlanLaws.{plan_does, at_append}

-- ---- one behind another

pub behind_behind : {F T : Type 0} (first second : List Effect) (r : Outcome F T) → told_behind first (told_behind second r) ≡ told_behind (first ++ second) r
behind_behind first second r = ap (λ (told : List Effect). (r.0, told, r.2, r.3)) (sym (append_assoc first second r.1))

pub bind_carries : {F T U : Type 0} (n : ℕ) (s : CoreState) (f : F) (p : Plan F T) (next : T → CoreState → F → Plan F U) → carried n s f (bind s f p next) ≡ carried_next n (carried n s f p) next
bind_carries n s f (Tells told) next = refl
bind_carries n s f (Does deeds kept told) next = refl
bind_carries n s f (Behind deeds kept rest) next =
    let t = all_done n s deeds in
    let r = carried n t kept (rest t) in
    ap (told_behind (all_told_of n s deeds)) (bind_carries n t kept (rest t) next) ∙ behind_behind (all_told_of n s deeds) r.1 (carried n r.3 r.2 (next r.0 r.3 r.2))
bind_carries n s f (Asking left a rest) next =
    let q = ask n left s a in
    let r = carried n q.2 f (rest q.0 q.2) in
    ap (told_behind q.1) (bind_carries n q.2 f (rest q.0 q.2) next) ∙ behind_behind q.1 r.1 (carried n r.3 r.2 (next r.0 r.3 r.2))

pub bind_does : {F T U : Type 0} (n : ℕ) (s : CoreState) (f : F) (p : Plan F T) (next : T → CoreState → F → Plan F U) → deeds_of n s (bind s f p next) ≡ deeds_of n s p ++ deeds_next n (carried n s f p) next
bind_does n s f (Tells told) next = refl
bind_does n s f (Does deeds kept told) next = refl
bind_does n s f (Behind deeds kept rest) next =
    let t = all_done n s deeds in
    ap (λ (ds : List Deed). deeds ++ ds) (bind_does n t kept (rest t) next) ∙ sym (append_assoc deeds (deeds_of n t (rest t)) (deeds_next n (carried n t kept (rest t)) next))
bind_does n s f (Asking left a rest) next = let q = ask n left s a in ap (λ (ds : List Deed). Asks left a ∷ ds) (bind_does n q.2 f (rest q.0 q.2) next)

-- what holds of each deed of both holds of each of the whole
pub bind_all : {F T U : Type 0} (P : CoreState → Deed → Type 0) (n : ℕ) (s : CoreState) (f : F) (p : Plan F T) (next : T → CoreState → F → Plan F U)
    → AllDeeds P n s p → (let r = carried n s f p in AllDeeds P n r.3 (next r.0 r.3 r.2)) → AllDeeds P n s (bind s f p next)
bind_all P n s f p next first second =
    let r = carried n s f p in
    subst (λ (ds : List Deed). AllAt P n s ds) (sym (bind_does n s f p next))
    (at_append P n s (deeds_of n s p) (deeds_next n r next) first (subst (λ (t : CoreState). AllAt P n t (deeds_next n r next)) (plan_does n s f p) second))

-- ---- within a larger one

pub within_carries : {F G T U : Type 0} (n : ℕ) (s : CoreState) (f : F) (keep : F → G) (end : T → F → U × G) (p : Plan F T) → carried n s (keep f) (within keep end f p) ≡ ended_within end (carried n s f p)
within_carries n s f keep end (Tells told) = refl
within_carries n s f keep end (Does deeds kept told) = refl
within_carries n s f keep end (Behind deeds kept rest) = let t = all_done n s deeds in ap (told_behind (all_told_of n s deeds)) (within_carries n t kept keep end (rest t))
within_carries n s f keep end (Asking left a rest) = let q = ask n left s a in ap (told_behind q.1) (within_carries n q.2 f keep end (rest q.0 q.2))

pub within_does : {F G T U : Type 0} (n : ℕ) (s : CoreState) (f : F) (keep : F → G) (end : T → F → U × G) (p : Plan F T) → deeds_of n s (within keep end f p) ≡ deeds_of n s p
within_does n s f keep end (Tells told) = refl
within_does n s f keep end (Does deeds kept told) = refl
within_does n s f keep end (Behind deeds kept rest) = let t = all_done n s deeds in ap (λ (ds : List Deed). deeds ++ ds) (within_does n t kept keep end (rest t))
within_does n s f keep end (Asking left a rest) = let q = ask n left s a in ap (λ (ds : List Deed). Asks left a ∷ ds) (within_does n q.2 f keep end (rest q.0 q.2))
