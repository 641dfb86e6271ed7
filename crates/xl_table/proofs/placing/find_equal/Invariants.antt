use Rattle.std.proofs.Common.{◌≡◌, ◌++◌, take, drop}
use Rattle.std.specs.List.{list_any}
use Rattle.xl_matrix.specs.Equal.{same_claims}
use Rattle.xl_table.specs.Flat.{removed}
use Rattle.xl_table.proofs.placing.find_equal.Given as goal

abbrev pub invariant-claims : goal.invariant-claims
invariant-claims l =
    (removed l.claim l.claims ≡ take l.i l.claims ++ removed l.claim (drop l.i l.claims))
    × (list_any (λ held. same_claims held l.claim) l.claims ≡ list_any (λ held. same_claims held l.claim) (drop l.i l.claims))
