-- A list that a test parts.
use Rattle.std.specs.Prelude.{◌≡◌, Bool, false, List, [], ◌∷◌}
use Rattle.std.specs.List.{AllByRecursion}

-- once an element fails the test, so do all behind it
abbrev pub IsParted : {A : Type 0} → (A → Bool) → List A → Type 0
IsParted p [] = Unit {0}
IsParted p (x ∷ xs) = (p x ≡ false → AllByRecursion (λ y. p y ≡ false) xs) × IsParted p xs
