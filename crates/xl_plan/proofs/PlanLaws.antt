-- What a plan leaves and tells of is what its deeds leave and tell of.
use Rattle.std.proofs.Common.{◌≡◌, ℕ, List, [], ◌∷◌, ◌++◌, sym, ap, subst, ◌∙◌, refl}
use Rattle.std.specs.List.{AllByRecursion}
use Rattle.xl_core.specs.Decide.{ask}
use Rattle.xl_core.specs.Deeds.{Deed, done, all_done, all_told_of, IsFitDeed, AreFit}
use Rattle.xl_core.specs.Good.{IsGood}
use Rattle.xl_core.specs.State.{CoreState}
use Rattle.xl_core.specs.declared.ask.Effect.{Effect}
use Rattle.xl_core.proofs.DeedLists.{done_append, told_append, deeds_good}
use Rattle.xl_plan.specs.Plans.{Plan, Tells, Does, Behind, Asking, deeds_of, carried, AllAt, AllDeeds, AllEnds, AllKept}

pub plan_does : {F T : Type 0} (n : ℕ) (s : CoreState) (f : F) (p : Plan F T) → (carried n s f p).3 ≡ all_done n s (deeds_of n s p)
plan_does n s f (Tells told) = refl
plan_does n s f (Does deeds kept told) = refl
plan_does n s f (Behind deeds kept rest) = let t = all_done n s deeds in plan_does n t kept (rest t) ∙ sym (done_append n s deeds (deeds_of n t (rest t)))
plan_does n s f (Asking left a rest) = let r = ask n left s a in plan_does n r.2 f (rest r.0 r.2)

pub plan_tells : {F T : Type 0} (n : ℕ) (s : CoreState) (f : F) (p : Plan F T) → (carried n s f p).1 ≡ all_told_of n s (deeds_of n s p)
plan_tells n s f (Tells told) = refl
plan_tells n s f (Does deeds kept told) = refl
plan_tells n s f (Behind deeds kept rest) =
    let t = all_done n s deeds in
    ap (λ (told : List Effect). all_told_of n s deeds ++ told) (plan_tells n t kept (rest t)) ∙ sym (told_append n s deeds (deeds_of n t (rest t)))
plan_tells n s f (Asking left a rest) = let r = ask n left s a in ap (λ (told : List Effect). r.1 ++ told) (plan_tells n r.2 f (rest r.0 r.2))

-- ---- what holds of each deed

pub at_append : (P : CoreState → Deed → Type 0) (n : ℕ) (s : CoreState) (ds es : List Deed) → AllAt P n s ds → AllAt P n (all_done n s ds) es → AllAt P n s (ds ++ es)
at_append P n s [] es first second = second
at_append P n s (d ∷ ds) es first second = (first.0, at_append P n (done n s d) ds es first.1 second)

pub at_parts : (P : CoreState → Deed → Type 0) (n : ℕ) (s : CoreState) (ds es : List Deed) → AllAt P n s (ds ++ es) → AllAt P n s ds × AllAt P n (all_done n s ds) es
at_parts P n s [] es all = (tt, all)
at_parts P n s (d ∷ ds) es all = let rest = at_parts P n (done n s d) ds es all.1 in ((all.0, rest.0), rest.1)

pub at_weaker : (P Q : CoreState → Deed → Type 0) (n : ℕ) (s : CoreState) (ds : List Deed) → ((t : CoreState) (d : Deed) → P t d → Q t d) → AllAt P n s ds → AllAt Q n s ds
at_weaker P Q n s [] weaker all = tt
at_weaker P Q n s (d ∷ ds) weaker all = (weaker s d all.0, at_weaker P Q n (done n s d) ds weaker all.1)

-- deeds in a row keep what each of them keeps
pub keep_along : (I : CoreState → Type 0) (P : CoreState → Deed → Type 0) (n : ℕ) (s : CoreState) (ds : List Deed) → ((t : CoreState) (d : Deed) → I t → P t d → I (done n t d)) → I s → AllAt P n s ds → I (all_done n s ds)
keep_along I P n s [] keeps holds all = holds
keep_along I P n s (d ∷ ds) keeps holds all = keep_along I P n (done n s d) ds keeps (keeps s d holds all.0) all.1

pub at_fit : (n : ℕ) (s : CoreState) (ds : List Deed) → AllAt IsFitDeed n s ds → AreFit n s ds
at_fit n s [] all = tt
at_fit n s (d ∷ ds) all = (all.0, at_fit n (done n s d) ds all.1)

pub fit_at : (n : ℕ) (s : CoreState) (ds : List Deed) → AreFit n s ds → AllAt IsFitDeed n s ds
fit_at n s [] fit = tt
fit_at n s (d ∷ ds) fit = (fit.0, fit_at n (done n s d) ds fit.1)

pub at_both : (P Q : CoreState → Deed → Type 0) (n : ℕ) (s : CoreState) (ds : List Deed) → AllAt P n s ds → AllAt Q n s ds → AllAt (λ t d. P t d × Q t d) n s ds
at_both P Q n s [] first second = tt
at_both P Q n s (d ∷ ds) first second = ((first.0, second.0), at_both P Q n (done n s d) ds first.1 second.1)

pub at_each : (P : CoreState → Deed → Type 0) (Q : Deed → Type 0) (n : ℕ) (s : CoreState) (ds : List Deed) → ((t : CoreState) (d : Deed) → P t d → Q d) → AllAt P n s ds → AllByRecursion Q ds
at_each P Q n s [] each all = tt
at_each P Q n s (d ∷ ds) each all = (each s d all.0, at_each P Q n (done n s d) ds each all.1)

pub plan_each : {F T : Type 0} (P : Deed → Type 0) (n : ℕ) (s : CoreState) (p : Plan F T) → AllDeeds (λ t d. P d) n s p → AllByRecursion P (deeds_of n s p)
plan_each P n s p all = at_each (λ t d. P d) P n s (deeds_of n s p) (λ t d is. is) all

pub plan_fits : {F T : Type 0} (n : ℕ) (s : CoreState) (p : Plan F T) → AllDeeds IsFitDeed n s p → AreFit n s (deeds_of n s p)
plan_fits n s p all = at_fit n s (deeds_of n s p) all

-- a good core stays good
pub plan_good : {F T : Type 0} (n : ℕ) (s : CoreState) (f : F) (p : Plan F T) → IsGood s → AllDeeds IsFitDeed n s p → IsGood (carried n s f p).3
plan_good n s f p good all = subst (λ (t : CoreState). IsGood t) (sym (plan_does n s f p)) (deeds_good n s (deeds_of n s p) good (plan_fits n s p all))

-- ---- what holds whichever way it goes

pub ends_so : {F T : Type 0} (E : T → Type 0) (n : ℕ) (s : CoreState) (f : F) (p : Plan F T) → AllEnds E p → E (carried n s f p).0
ends_so E n s f (Tells told) ends = ends
ends_so E n s f (Does deeds kept told) ends = ends
ends_so E n s f (Behind deeds kept rest) ends = let t = all_done n s deeds in ends_so E n t kept (rest t) (ends t)
ends_so E n s f (Asking left a rest) ends = let r = ask n left s a in ends_so E n r.2 f (rest r.0 r.2) (ends r.0 r.2)

pub kept_so : {F T : Type 0} (K : F → Type 0) (n : ℕ) (s : CoreState) (f : F) (p : Plan F T) → K f → AllKept K p → K (carried n s f p).2
kept_so K n s f (Tells told) holds kept = holds
kept_so K n s f (Does deeds new told) holds kept = kept
kept_so K n s f (Behind deeds new rest) holds kept = let t = all_done n s deeds in kept_so K n t new (rest t) kept.0 (kept.1 t)
kept_so K n s f (Asking left a rest) holds kept = let r = ask n left s a in kept_so K n r.2 f (rest r.0 r.2) holds (kept r.0 r.2)
