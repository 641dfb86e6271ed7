-- Telling of effects gives out numbers, and changes nothing else of the core.
use Rattle.std.proofs.Common.{◌≡◌, ℕ, ◌+◌, ◌<◌, ◌≤◌, Bool, true, false, if◌then◌else◌, inl, inr, Option, Some, None, List, [], ◌∷◌, length, refl, sym, ap, subst, ◌∙◌, arith, append_assoc, drop}
use Rattle.std.proofs.Math.ListN.{get_or}
use Rattle.std.proofs.lemmas.List.{drop_more}
use Rattle.std.proofs.lemmas.Bool.{cases_Bool}
use Rattle.xl_base.specs.declared.event.Out.{Out}
use Rattle.xl_base.specs.declared.journal.Exports.{Exports}
use Rattle.xl_base.specs.declared.name.Protocol.{Protocol}
use Rattle.xl_base.specs.declared.name.Protocol.TheVariants.{Nlm, Nfs, Smb}
use Rattle.xl_matrix.specs.declared.claim.Claim.{Claim}
use Rattle.xl_core.specs.Numbers.{delegations_left, numbers_of}
use Rattle.xl_core.specs.Settle.{turns_left}
use Rattle.xl_core.specs.State.{CoreState, aside_of, drawn}
use Rattle.xl_core.specs.Good.{IsGood}
use Rattle.xl_core.specs.Told.{told_to}
use Rattle.xl_core.specs.declared.ask.Answer.TheVariants as answers
use Rattle.xl_core.specs.declared.ask.Effect.{Effect}
use Rattle.xl_core.specs.declared.ask.Effect.TheVariants.{Served}
use Rattle.xl_core.proofs.GoodLaws.{drawn_good}
use Rattle.xl_front_nlm.specs.Grants.{news, told_by, shown}
use Rattle.xl_front_nlm.specs.State.{FrontState}
use Rattle.xl_house.specs.declared.layers.Fronts.{Fronts}
use Rattle.xl_front_nlm.specs.declared.grant.Grant.{Grant}
use Rattle.xl_house.specs.Telling.{Sent, is_grant, grants, behind, shown_by, showing, all_shown}
use Rattle.xl_plan.proofs.AsideLaws.{aside_goes_on}
use Rattle.xl_plan.proofs.BudgetLaws.{come_same}
use Rattle.xl_front_nlm.specs.Short.{IsReady, Leaves}
use Rattle.xl_house.specs.Shown.{IsShown}

-- ---- one after another

pub shown_self : (s : CoreState) → IsShown 0 s s
shown_self s = record { rises = omega arith; most = omega arith; parts = refl }

pub shown_on : (p q : ℕ) (s t u : CoreState) → IsShown p s t → IsShown q t u → IsShown (p + q) s u
shown_on p q s t u first next = record {
  rises = omega (arith, first.rises, next.rises);
  most = omega (arith, first.most, next.most);
  parts = next.parts ∙ ap (λ (x : CoreState). record x { counter = u.counter }) first.parts;
}

pub shown_less : (p q : ℕ) (s t : CoreState) → p ≤ q → IsShown p s t → IsShown q s t
shown_less p q s t h is = record { rises = is.rises; most = omega (arith, h, is.most); parts = is.parts }

-- ---- one effect

-- what holds of the core before, and once a number is given out, holds after an effect is shown
abbrev Holds : (CoreState → Type 0) → CoreState → Type 0
Holds P s = P s × P (drawn s)

by_news : (P : CoreState → Type 0) (f : FrontState) (s : CoreState) (o : Option (Claim × Grant × List ℕ)) → Holds P s → P (told_by f s o).2
by_news P f s None holds = holds.0
by_news P f s (Some told) holds = holds.1

by_protocol : (P : CoreState → Type 0) (exports : Exports) (f : Fronts) (s : CoreState) (effect : Effect) (p : Protocol) → Holds P s → P (shown_by exports f s effect p).2
unfolding shown
by_protocol P exports f s effect Nlm holds = by_news P f.nlm s (news exports s effect) holds
by_protocol P exports f s effect Nfs holds = holds.0
by_protocol P exports f s effect Smb holds = holds.0

shown_holds : (P : CoreState → Type 0) (exports : Exports) (f : Fronts) (s : CoreState) (effect : Effect) → Holds P s → P (showing exports f s effect).2
shown_holds P exports f s effect holds = by_protocol P exports f s effect (told_to effect) holds

-- an effect that tells of no grant shows nothing
no_news : (exports : Exports) (s : CoreState) (effect : Effect) → is_grant effect ≡ false → news exports s effect ≡ None
no_news exports s (Served party id (answers.Granted claim)) h = absurd cc
no_news exports s effect h = refl

quiet_by : (exports : Exports) (f : Fronts) (s : CoreState) (effect : Effect) (p : Protocol) → is_grant effect ≡ false → (shown_by exports f s effect p).2 ≡ s
unfolding shown
quiet_by exports f s effect Nlm h = ap (λ (o : Option (Claim × Grant × List ℕ)). (told_by f.nlm s o).2) (no_news exports s effect h)
quiet_by exports f s effect Nfs h = refl
quiet_by exports f s effect Smb h = refl

quiet_shown : (exports : Exports) (f : Fronts) (s : CoreState) (effect : Effect) → is_grant effect ≡ false → (showing exports f s effect).2 ≡ s
quiet_shown exports f s effect h = quiet_by exports f s effect (told_to effect) h

drawn_shown : (s : CoreState) → IsShown 1 s (drawn s)
unfolding drawn
drawn_shown s = record { rises = omega arith; most = omega arith; parts = refl }

pub shown_one : (exports : Exports) (f : Fronts) (s : CoreState) (effect : Effect) → IsShown 1 s (showing exports f s effect).2
shown_one exports f s effect = shown_holds (λ t. IsShown 1 s t) exports f s effect (shown_less 0 1 s s (omega arith) (shown_self s), drawn_shown s)

shown_good : (exports : Exports) (f : Fronts) (s : CoreState) (effect : Effect) → IsGood s → IsGood (showing exports f s effect).2
shown_good exports f s effect good = shown_holds (λ t. IsGood t) exports f s effect (good, drawn_good s good)

-- ---- effects in order

abbrev number_of : Bool → ℕ
number_of b = if b then 1 else 0

one_more : (b : Bool) (n : ℕ) → (if b then n + 1 else n) ≡ number_of b + n
one_more true n = omega arith
one_more false n = omega arith

shown_most : (exports : Exports) (f : Fronts) (s : CoreState) (effect : Effect) → IsShown (number_of (is_grant effect)) s (showing exports f s effect).2
shown_most exports f s effect =
    elim (cases_Bool (is_grant effect)) [
      | inl grant ↦ rw grant (shown_one exports f s effect)
      | inr quiet ↦ rw quiet (subst (λ (t : CoreState). IsShown 0 s t) (sym (quiet_shown exports f s effect quiet)) (shown_self s))
    ]

pub all_shown_is : (exports : Exports) (f : Fronts) (s : CoreState) (effects : List Effect) → IsShown (grants effects) s (all_shown exports f s effects).2
all_shown_is exports f s [] = shown_self s
all_shown_is exports f s (effect ∷ effects) =
    let r = showing exports f s effect in
    subst (λ (n : ℕ). IsShown n s (all_shown exports r.1 r.2 effects).2) (sym (one_more (is_grant effect) (grants effects)))
    (shown_on (number_of (is_grant effect)) (grants effects) s r.2 (all_shown exports r.1 r.2 effects).2 (shown_most exports f s effect) (all_shown_is exports r.1 r.2 effects))

pub all_shown_good : (exports : Exports) (f : Fronts) (s : CoreState) (effects : List Effect) → IsGood s → IsGood (all_shown exports f s effects).2
all_shown_good exports f s [] good = good
all_shown_good exports f s (effect ∷ effects) good = let r = showing exports f s effect in all_shown_good exports r.1 r.2 effects (shown_good exports f s effect good)

-- ---- as the code tells it

pub all_is_shown : (exports : Exports) (f g : Fronts) (s t : CoreState) (effects : List Effect) (old outs : List Out) → behind old (all_shown exports f s effects) ≡ (outs, g, t) → IsShown (grants effects) s t
all_is_shown exports f g s t effects old outs e = subst (λ (x : CoreState). IsShown (grants effects) s x) (ap (λ (r : Sent). r.2) e) (all_shown_is exports f s effects)

-- the record, the grace and the stores of the step stay
pub shown_aside : (most : ℕ) (s t : CoreState) → IsShown most s t → aside_of t ≡ aside_of s
shown_aside most s t is = ap aside_of is.parts

pub all_aside : (exports : Exports) (f g : Fronts) (s t : CoreState) (effects : List Effect) (old outs : List Out) → behind old (all_shown exports f s effects) ≡ (outs, g, t) → aside_of t ≡ aside_of s
all_aside exports f g s t effects old outs e = shown_aside (grants effects) s t (all_is_shown exports f g s t effects old outs e)

-- so far may numbers go then
pub shown_numbers : (most : ℕ) (s t : CoreState) → IsShown most s t → numbers_of t ≤ numbers_of s + most
shown_numbers most s t is = omega (arith, is.most, ap (λ (x : CoreState). length x.waiters + delegations_left x.claims) is.parts)

pub all_leaves : (exports : Exports) (f g : Fronts) (s t : CoreState) (effects : List Effect) (old outs : List Out) → behind old (all_shown exports f s effects) ≡ (outs, g, t) → IsReady (grants effects) s → Leaves (grants effects) s t
all_leaves exports f g s t effects old outs e ready =
    let is = all_is_shown exports f g s t effects old outs e in
    record {
      on = aside_goes_on s t (shown_aside (grants effects) s t is);
      good = subst (λ (x : CoreState). IsGood x) (ap (λ (r : Sent). r.2) e) (all_shown_good exports f s effects ready.core.good);
      numbers = shown_numbers (grants effects) s t is;
      names = come_same s.names t.names (ap (λ (x : CoreState). x.names) is.parts);
    }

-- one more effect of those that are left
pub show_next : (exports : Exports) (f g : Fronts) (s t : CoreState) (effects : List Effect) (i : ℕ) (effect : Effect) (outs new : List Out) → i < length effects → effect ≡ get_or effects i effect → behind outs (showing exports f s effect) ≡ (new, g, t)
    → (behind new (all_shown exports g t (drop (i + 1) effects)) ≡ behind outs (all_shown exports f s (drop i effects))) × (numbers_of t + grants (drop (i + 1) effects) ≤ numbers_of s + grants (drop i effects))
show_next exports f g s t effects i effect outs new there at is =
    let rest = drop (i + 1) effects in
    let all : drop i effects ≡ effect ∷ rest = drop_more effects i effect there ∙ ap (λ (x : Effect). x ∷ rest) (sym at) in
    let r = showing exports f s effect in
    let more = all_shown exports r.1 r.2 rest in
    let counted : grants (effect ∷ rest) ≡ number_of (is_grant effect) + grants rest = one_more (is_grant effect) (grants rest) in
    let most = shown_numbers (number_of (is_grant effect)) s t (subst (λ (x : CoreState). IsShown (number_of (is_grant effect)) s x) (ap (λ (q : Sent). q.2) is) (shown_most exports f s effect)) in (
      ap (λ (q : Sent). behind q.0 (all_shown exports q.1 q.2 rest)) (sym is)
          ∙ (λ j. (append_assoc outs r.0 more.0 j, more.1, more.2))
          ∙ ap (λ (x : List Effect). behind outs (all_shown exports f s x)) (sym all),
      omega (arith, most, counted, ap (λ (x : List Effect). grants x) all),
    )

-- ---- what stands still

-- as many turns are left once the effects are shown
pub told_turns : (exports : Exports) (f : Fronts) (t : CoreState) (effects : List Effect) → turns_left (all_shown exports f t effects).2 ≡ turns_left t
told_turns exports f t effects = ap (λ (x : CoreState). turns_left x) (all_shown_is exports f t effects).parts

pub shown_names : (most : ℕ) (s t : CoreState) → IsShown most s t → t.names ≡ s.names
shown_names most s t is = ap (λ (x : CoreState). x.names) is.parts
