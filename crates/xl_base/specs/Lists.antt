-- Words on lists that the laws above need: membership, pairs, order.
use Rattle.std.specs.Prelude.{◌≡◌, Bool, true, ◌⊎◌, List, [], ◌∷◌, if◌then◌else◌}
use Rattle.std.specs.List.{AllByRecursion}

-- x is in the list
abbrev pub IsIn : {A : Type 0} → A → List A → Type 0
IsIn x [] = ⊥
IsIn x (y ∷ ys) = (y ≡ x) ⊎ IsIn x ys

-- the test passes for each two elements at different places, the earlier one first
abbrev pub Pairwise : {A : Type 0} → (A → A → Bool) → List A → Type 0
Pairwise test [] = Unit {0}
Pairwise test (x ∷ xs) = AllByRecursion (λ y. test x y ≡ true) xs × Pairwise test xs

-- x put behind the elements that stand before it, where below says that an element does
abbrev pub placed : {A : Type 0} → (A → A → Bool) → A → List A → List A
placed below x [] = x ∷ []
placed below x (y ∷ ys) = if below y x then y ∷ placed below x ys else x ∷ y ∷ ys

-- the elements in order; those of which neither stands below the other stay as they were
abbrev pub sorted : {A : Type 0} → (A → A → Bool) → List A → List A
sorted below [] = []
sorted below (x ∷ xs) = placed below x (sorted below xs)
