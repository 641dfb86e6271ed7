-- The least of a list, by the test that one stands before another.
use Rattle.std.specs.Prelude.{Bool, if◌then◌else◌, List, [], ◌∷◌, Option, Some, None}

-- the lesser of the least so far and one more; of two that tie the earlier
abbrev pub lesser : {A : Type 0} → (A → A → Bool) → Option A → A → Option A
lesser before None x = Some x
lesser before (Some found) x = if before x found then Some x else Some found

-- the least of the least so far and these
abbrev pub least_from : {A : Type 0} → (A → A → Bool) → Option A → List A → Option A
least_from before found [] = found
least_from before found (x ∷ xs) = least_from before (lesser before found x) xs

-- the least of these, the first of several such; none of none
abbrev pub least_by : {A : Type 0} → (A → A → Bool) → List A → Option A
least_by before xs = least_from before None xs
