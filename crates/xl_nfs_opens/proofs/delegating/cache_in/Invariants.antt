use Rattle.std.proofs.Common.{◌≡◌, find, drop}
use Rattle.xl_matrix.specs.Equal.{same_parties}
use Rattle.xl_nfs_opens.proofs.delegating.cache_in.Given as goal

abbrev pub invariant-caches : goal.invariant-caches
invariant-caches l = find (λ c. same_parties c.party l.party) (drop l.claim-index l.caches) ≡ find (λ c. same_parties c.party l.party) l.caches
