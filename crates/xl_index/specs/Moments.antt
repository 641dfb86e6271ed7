-- The deadlines of the breaks that run, in order.
use Rattle.std.specs.Prelude.{ℕ, ◌+◌, ◌≤◌, Bool, false, List, [], ◌∷◌, Some}
use Rattle.std.specs.List.{AllByRecursion}
use Rattle.xl_matrix.specs.declared.claim.Claim.{Claim}
use Rattle.xl_matrix.specs.declared.claim.What.{What}
use Rattle.xl_matrix.specs.declared.claim.What.TheVariants.{Cache}
use Rattle.xl_index.specs.Totals.{one, total}

-- how many of these moments pass the test
abbrev pub passing : (ℕ → Bool) → List ℕ → ℕ
passing p [] = 0
passing p (m ∷ ms) = one (p m) + passing p ms

-- what is claimed is a cache whose break runs, and its deadline passes the test
abbrev pub runs : (ℕ → Bool) → What → Bool
runs p (Cache kind (Some running)) = p running.deadline.0
runs p _ = false

-- how many of these claims are such
abbrev pub running : (ℕ → Bool) → List Claim → ℕ
running p cs = total (λ c. one (runs p c.what)) cs

-- none of these moments is later than one behind it (TABLE-15)
abbrev pub AreRising : List ℕ → Type 0
AreRising [] = Unit {0}
AreRising (m ∷ ms) = AllByRecursion (λ n. m ≤ n) ms × AreRising ms
