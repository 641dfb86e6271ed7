-- What a start leaves of the keeper.
use Rattle.std.proofs.Common.{◌≡◌, ℕ, List, ◌∷◌, [], ◌++◌, Option, Some, None, Result, Ok, Err, option_map, ◌↔◌, inl, false, IfSome, refl, sym, ap, subst, ◌∙◌}
use Rattle.std.specs.Prelude.{OnOk, IsErrAnd}
use Rattle.xl_base.specs.Outside.{StoreCounts, Spends, held_after, given_after}
use Rattle.xl_base.specs.Stable.{Stable}
use Rattle.xl_base.specs.declared.halt.Halt.{Halt}
use Rattle.xl_base.specs.declared.keeper.StoreOutcome.{StoreOutcome}
use Rattle.xl_base.specs.declared.keeper.StoreOutcome.TheVariants.{Stored, Failed}
use Rattle.xl_core.specs.Stores.{Telling, Holds, given_more}
use Rattle.xl_house.specs.Housed.{is_spoiled}
use Rattle.xl_house.specs.Starts.{IsGiven, IsStored}

holds_it : (stable : Stable) (held : Option Stable) → Holds (option_map (λ _. stable) held) stable
holds_it stable None = refl
holds_it stable (Some old) = refl

given_it : (stable : Stable) (given : Option (List Stable)) → option_map (λ list. list ++ stable ∷ []) given ≡ given_more given (stable ∷ [])
given_it stable None = refl
given_it stable (Some list) = refl

-- a store that succeeded
pub stored_is : (outcome : StoreOutcome) (stable : Stable) (before now : Telling) → outcome ≡ Stored → now.held ≡ held_after outcome stable before.held → now.given ≡ given_after outcome stable before.given → ((n : ℕ) → before.left ≡ Some n → Spends outcome n now.left) → StoreCounts outcome before.faults now.faults → IsStored stable before now
stored_is outcome stable before now is held given left counts = record {
  held = subst (λ (o : Option Stable). Holds o stable) (sym (held ∙ ap (λ (x : StoreOutcome). held_after x stable before.held) is)) (holds_it stable before.held);
  given = given ∙ ap (λ (x : StoreOutcome). given_after x stable before.given) is ∙ given_it stable before.given;
  still = subst (λ (x : StoreOutcome). StoreCounts x before.faults now.faults) is counts;
  left = λ n told. subst (λ (x : StoreOutcome). Spends x n now.left) is (left n told);
}

-- one that failed had none left
pub none_left : (outcome : StoreOutcome) (n : ℕ) (left : Option ℕ) → outcome ≡ Failed → Spends outcome n left → n ≡ 0
none_left outcome n left is spends = (subst (λ (x : StoreOutcome). Spends x n left) is spends).0

-- a failure that is handed on is so for its cause
abbrev failed : (A : Type 0) → Halt → Result A Halt
failed A halt = Err halt

pub same_halt : (A : Type 0) (x y : Halt) → failed A x ≡ failed A y → x ≡ y
same_halt A x y e = cc

pub handed_on : (A B : Type 0) (r : Result A Halt) (halt x : Halt) (P : Type 0) → r ≡ failed A halt → (r ≡ failed A x) ↔ P → (failed B halt ≡ failed B x) ↔ P
handed_on A B r halt x P is why = (λ e. why.0 (is ∙ ap (failed A) (same_halt B halt x e)), λ p. ap (failed B) (same_halt A halt x (sym is ∙ why.1 p)))

-- the same of one that is handed on by `?`
pub handed_back : (A B : Type 0) (r : Result A Halt) (t : Result B Halt) (halt x : Halt) (P : Type 0) → r ≡ failed A halt → IsErrAnd t (λ e. e ≡ halt) → (r ≡ failed A x) ↔ P → (t ≡ failed B x) ↔ P
handed_back A B r (Err y) halt x P is same why = subst (λ (z : Halt). (failed B z ≡ failed B x) ↔ P) (sym same) (handed_on A B r halt x P is why)
handed_back A B r (Ok y) halt x P is same why = absurd same

-- what a call that is Ok ensures
pub of_ok : {A : Type 0} (P : Type 0) (r : Result A Halt) (x : A) → r ≡ Ok x → OnOk r P → P
of_ok P r x is said = subst (λ (q : Result _ Halt). OnOk q P) is said

-- a load before the store leaves all that the keeper tells
pub stored_from : (stable : Stable) (before mid now : Telling) → mid.held ≡ before.held → mid.given ≡ before.given → mid.faults ≡ before.faults → mid.left ≡ before.left → IsStored stable mid now → IsStored stable before now
stored_from stable before mid now held given faults left is = subst (λ (x : Telling). IsStored stable x now) (λ i. record { held = held i; given = given i; faults = faults i; left = left i }) is

-- the same of the cause itself
pub bare : (A : Type 0) (halt x : Halt) (P : Type 0) → (failed A halt ≡ failed A x) ↔ P → (halt ≡ x) ↔ P
bare A halt x P why = (λ e. why.0 (ap (failed A) e), λ p. same_halt A halt x (why.1 p))

pub as_failed : (A : Type 0) (halt x : Halt) → halt ≡ x → failed A halt ≡ failed A x
as_failed A halt x e = ap (failed A) e

-- what a restart tried, if this is the record unless the house is spoiled, and nothing was given if it had halted
pub tried_of : (halt : Option Halt) (P : Halt → Type 0) (held : Option Stable) (stable after : Stable) (old new : Option (List Stable)) → IsGiven held stable old new → (is_spoiled halt ≡ false → stable ≡ after) → IfSome halt P → ((reason : Halt) → P reason → new ≡ old) → IsGiven held after old new
tried_of None P held stable after old new tried same none still = subst (λ (x : Stable). IsGiven held x old new) (same refl) tried
tried_of (Some reason) P held stable after old new tried same some still = inl (still reason some)

-- a house that goes on had not halted
pub goes_on : (halt : Option Halt) (P : Halt → Type 0) → halt ≡ None → IfSome halt P
goes_on halt P none = subst (λ (h : Option Halt). IfSome h P) (sym none) tt

pub some_maps : (halt : Option Halt) (P Q : Halt → Type 0) → ((reason : Halt) → P reason → Q reason) → IfSome halt P → IfSome halt Q
some_maps None P Q to some = tt
some_maps (Some reason) P Q to some = to reason some
