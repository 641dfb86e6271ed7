-- With a connection go the requests that came by it, and no others.
use Rattle.std.proofs.Common.{◌≡◌, ℕ, Bool, true, false, eqb, List, [], ◌∷◌, ◌++◌, Option, Some, None, is_some, refl, sym, ap, subst, ◌∙◌, ◌⊎◌, inl, inr, arith}
use Rattle.std.specs.Prelude.{nat_eq}
use Rattle.std.specs.List.{AllByRecursion, IsDistinct, list_any}
use Rattle.std.specs.Map.{keys_of}
use Rattle.std.proofs.lemmas.Bool.{and_parts, cases_Bool, false≢true, true≢false}
use Rattle.std.proofs.lemmas.Bool.Decides.{nat_tests}
use Rattle.std.proofs.lemmas.Map.Keys.{IsDistinct-head, IsDistinct-tail}
use Rattle.xl_base.proofs.Members.{all_in}
use Rattle.xl_base.specs.Lists.{IsIn}
use Rattle.xl_smb_state.specs.Links.{AreDistinct}
use Rattle.xl_smb_state.specs.State.{Lists, covers, covers_holder, creates_under, made_in, makes_open, makes_under, open_of, opens_under}
use Rattle.xl_smb_state.specs.declared.row.Holder.{Holder}
use Rattle.xl_smb_state.specs.declared.row.Holder.TheVariants as holder
use Rattle.xl_smb_state.specs.declared.row.Open.{Open}
use Rattle.xl_smb_state.specs.declared.row.Request.{Request}
use Rattle.xl_smb_state.specs.declared.row.Request.TheVariants as request
use Rattle.xl_smb_state.specs.declared.row.Scope.{Scope}
use Rattle.xl_smb_state.specs.declared.row.Scope.TheVariants as scope
use Rattle.xl_smb_state.specs.declared.row.Waiting.{Waiting}
use Rattle.xl_smb_state.proofs.RowLaws.{equal_from, equal_self}
use Rattle.xl_core.specs.Good.{IsGood}
use Rattle.xl_core.specs.State.{CoreState}
use Rattle.xl_front_smb.specs.Checks.{is_open_on}
use Rattle.xl_front_smb.specs.Ending.{numbers_under, smb_end}
use Rattle.xl_front_smb.specs.State.{FrontSmb}
use Rattle.xl_front_smb.proofs.EndLaws.{IsFound}
use Rattle.xl_smb_laws.specs.WaitingRequests.{AreAwaited, IsAwaited, IsUnder}
use Rattle.xl_smb_laws.proofs.AwaitedRequestLaws.{any_self, key_in}
use Rattle.xl_smb_laws.proofs.CancelLaws.{found_once}
use Rattle.xl_smb_laws.proofs.KeptWaiterLaws.{end_left}

from_any : (p : ℕ → Bool) (xs ys : List ℕ) → list_any p (xs ++ ys) ≡ true → (list_any p xs ≡ true) ⊎ (list_any p ys ≡ true)
from_any p [] ys h = inr h
from_any p (x ∷ xs) ys h = elim (cases_Bool (p x)) [ inl is ↦ inl (rw is refl) | inr other ↦ elim (from_any p xs ys (rw other at h)) [ inl left ↦ inl (rw other left) | inr right ↦ inr right ] ]

-- whose open it is
maker : (under : Scope) (es : List (ℕ × Waiting)) (k : ℕ) → list_any (nat_eq k) (made_in under es) ≡ true → (x : ℕ × Waiting) × IsIn x es × (makes_under under x.1 ≡ true) × (x.1.opened ≡ k)
maker under [] k h = absurd (false≢true h)
maker under (e ∷ es) k h =
    elim (cases_Bool (makes_under under e.1)) [
      | inl makes ↦ (
          let there : list_any (nat_eq k) (e.1.opened ∷ made_in under es) ≡ true = rw makes at h in
          elim (cases_Bool (eqb k e.1.opened)) [
            | inl same ↦ (e, inl refl, makes, equal_from k e.1.opened same)
            | inr other ↦ (let rest = maker under es k (rw other at there) in (rest.0, inr rest.1, rest.2, rest.3))
          ])
      | inr out ↦ (let rest = maker under es k (rw out at h) in (rest.0, inr rest.1, rest.2, rest.3))
    ]

-- no two rows have one number
not_twice : (d z : ℕ × Waiting) (es : List (ℕ × Waiting)) → AllByRecursion (λ k. eqb d.0 k ≡ false) (keys_of es) → IsIn z es → d.0 ≡ z.0 → ⊥
not_twice d z es all here same = true≢false (sym (subst (λ (k : ℕ). eqb d.0 k ≡ true) same (equal_self d.0)) ∙ all_in (λ (k : ℕ). eqb d.0 k ≡ false) z.0 (keys_of es) all (key_in es z here))

same_row : (es : List (ℕ × Waiting)) (x e : ℕ × Waiting) → IsDistinct nat_eq (keys_of es) → IsIn x es → IsIn e es → x.0 ≡ e.0 → x ≡ e
same_row [] x e distinct here there same = absurd here
same_row (d ∷ es) x e distinct here there same =
    let all = IsDistinct-head nat_eq d.0 (keys_of es) distinct in
    elim here [
      | inl first ↦ elim there [
        | inl second ↦ sym first ∙ second
        | inr later ↦ absurd (not_twice d e es all later (ap (λ (y : ℕ × Waiting). y.0) first ∙ same))
      ]
      | inr rest ↦ elim there [
        | inl second ↦ absurd (not_twice d x es all rest (ap (λ (y : ℕ × Waiting). y.0) second ∙ sym same))
        | inr later ↦ same_row es x e (IsDistinct-tail nat_eq d.0 (keys_of es) distinct) rest later same
      ]
    ]

both_on : (a b : ℕ) (by : Holder) → covers_holder (scope.Connection a) by ≡ true → covers_holder (scope.Connection b) by ≡ true → eqb a b ≡ true
both_on a b (holder.Tree place) first second = grind (arith, nat_tests)
both_on a b (holder.Nobody until) first second = absurd (false≢true first)

held_on_both : (a b : ℕ) (o : Option Open) → is_open_on a o ≡ true → IsFound (λ (r : Open). covers_holder (scope.Connection b) r.holder) o → eqb a b ≡ true
held_on_both a b None on found = absurd (false≢true on)
held_on_both a b (Some row) on found = both_on a b row.holder on found

on_there : (a : ℕ) (o : Option Open) → is_open_on a o ≡ true → is_some o ≡ false → ⊥
on_there a None on none = false≢true on
on_there a (Some row) on none = true≢false none

found_there : (test : Open → Bool) (o : Option Open) → IsFound test o → is_some o ≡ false → ⊥
found_there test None found none = found
found_there test (Some row) found none = true≢false none

free_of : (l : Lists) (x : ℕ × Waiting) (r : Request) → makes_open r ≡ true → IsUnder l x r → is_some (open_of x.1.opened l) ≡ false
free_of l x request.Lock makes under = absurd (false≢true makes)
free_of l x (request.Create made) makes under = under.free

-- what a request waits for that came by another connection isn't under this one
elsewhere : (s : CoreState) (l : Lists) (conn : ℕ) (e : ℕ × Waiting) → AreDistinct l → AreAwaited s l → IsIn e l.waiting → eqb e.1.place.connection conn ≡ false → list_any (nat_eq e.1.opened) (numbers_under (scope.Connection conn) l) ≡ false
elsewhere s l conn e distinct awaited here apart =
    elim (cases_Bool (list_any (nat_eq e.1.opened) (numbers_under (scope.Connection conn) l))) [
      | inr none ↦ none
      | inl some ↦ absurd (elim (from_any (nat_eq e.1.opened) (opens_under (scope.Connection conn) l) (creates_under (scope.Connection conn) l) some) [
        | inl held ↦ by_open e.1.request (all_in (IsAwaited s l) e l.waiting awaited here).under (found_once (λ (r : Open). covers_holder (scope.Connection conn) r.holder) l.opens e.1.opened distinct.opens (any_self e.1.opened (opens_under (scope.Connection conn) l) held))
        | inr made ↦ by_made e.1.request (all_in (IsAwaited s l) e l.waiting awaited here).under (maker (scope.Connection conn) l.waiting e.1.opened made)
      ])
    ]
  where
    by_open : (r : Request) → IsUnder l e r → IsFound (λ (o : Open). covers_holder (scope.Connection conn) o.holder) (open_of e.1.opened l) → ⊥
    by_open request.Lock under found = true≢false (sym (held_on_both e.1.place.connection conn (open_of e.1.opened l) under found) ∙ apart)
    by_open (request.Create made) under found = found_there (λ (o : Open). covers_holder (scope.Connection conn) o.holder) (open_of e.1.opened l) found under.free

    by_made : (r : Request) → IsUnder l e r → ((x : ℕ × Waiting) × IsIn x l.waiting × (makes_under (scope.Connection conn) x.1 ≡ true) × (x.1.opened ≡ e.1.opened)) → ⊥
    by_made request.Lock under x =
        let makes = (and_parts (makes_open x.0.1.request) (covers (scope.Connection conn) x.0.1.place) x.2).0 in
        on_there e.1.place.connection (open_of e.1.opened l) under (ap (λ (k : ℕ). is_some (open_of k l)) (sym x.3) ∙ free_of l x.0 x.0.1.request makes (all_in (IsAwaited s l) x.0 l.waiting awaited x.1).under)
    by_made (request.Create made) under x =
        let both = and_parts (makes_open x.0.1.request) (covers (scope.Connection conn) x.0.1.place) x.2 in
        let same = same_row l.waiting x.0 e distinct.waiting x.1 here (under.single x.0 x.1 both.0 x.3) in
        true≢false (sym (subst (λ (y : ℕ × Waiting). eqb y.1.place.connection conn ≡ true) same both.1) ∙ apart)

pub others_stay : (f : FrontSmb) (s : CoreState) (conn : ℕ) (e : ℕ × Waiting) → IsGood s → AreDistinct f.state → AreAwaited s f.state → IsIn e f.state.waiting → eqb e.1.place.connection conn ≡ false → IsIn e (smb_end f s conn).1.state.waiting
others_stay f s conn e good distinct awaited here apart = (end_left f s conn good distinct awaited e).1 (here, elsewhere s f.state conn e distinct awaited here apart)
