-- Looks at claims, one after another.
use Rattle.std.proofs.Common.{ℕ, ◌+◌, ◌≤◌, List, ◌++◌, length, arith}
use Rattle.std.proofs.lemmas.List.{length-append}
use Rattle.xl_matrix.specs.declared.claim.Claim.{Claim}

-- so many steps for the claims of a page, and so many for those behind it
pub looked_more : (old mid new : ℕ) (p rest : List Claim) → mid ≤ old + length p → new ≤ mid + length rest → new ≤ old + length (p ++ rest)
looked_more old mid new p rest h k = omega (arith, h, k, length-append p rest)
