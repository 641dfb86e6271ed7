-- What the outside tells of what it did, and how its counts rise.
use Rattle.std.specs.Prelude.{◌≡◌, ℕ, Bool, true, false, List, [], ◌∷◌, Option, Some, None}
use Rattle.xl_base.specs.Outside.{Rose}
use Rattle.xl_base.specs.Memory.{counted}

-- What was told became what is told by this step, if it is told still. Who tells nothing goes on so; who tells may
-- cease to tell (PROOF-6).
abbrev pub Follows : {A : Type 0} → Option A → Option A → (A → A → Type 0) → Type 0
Follows old None step = Unit {0}
Follows None (Some new) step = ⊥
Follows (Some old) (Some new) step = step old new

-- a step of the newest element of a list that has the newest in front; a list without elements stays so
abbrev pub OnNewest : {A : Type 0} → (A → A → Type 0) → List A → List A → Type 0
OnNewest step [] new = new ≡ []
OnNewest {A} step (x ∷ xs) new = (y : A) × (new ≡ y ∷ xs) × step x y

-- A count of faults rose if the call failed, and stays if it didn't.
abbrev pub RoseIf : Bool → ℕ → ℕ → Type 0
RoseIf true before now = Rose before now
RoseIf false before now = now ≡ before

-- a count of 64 bits, one more if it is so; it stops at its last value
abbrev pub counted_if : Bool → ℕ → ℕ
counted_if true count = counted count
counted_if false count = count
