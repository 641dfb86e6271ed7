-- Sums over claims, which do not depend on their order.
use Rattle.std.specs.Prelude.{◌≡◌, ℕ, ◌+◌, Bool, true, false, List, [], ◌∷◌}
use Rattle.xl_matrix.specs.declared.claim.Claim.{Claim}

-- 1 if a test passes
abbrev pub one : Bool → ℕ
one true = 1
one false = 0

-- the sum of a weight over the claims
abbrev pub total : (Claim → ℕ) → List Claim → ℕ
total w [] = 0
total w (c ∷ cs) = w c + total w cs

-- the same claims in some order: each weight has the same sum over both
abbrev pub AreAlike : List Claim → List Claim → Type 0
AreAlike cs ds = (w : Claim → ℕ) → total w cs ≡ total w ds
