use Rattle.std.proofs.Common.{◌≡◌, find, drop}
use Rattle.xl_matrix.specs.Equal.{same_parties}
use Rattle.xl_matrix.specs.declared.claim.Claim.{Claim}
use Rattle.xl_smb_locks.proofs.levels.find_of.Given as goal

abbrev pub invariant-claims : goal.invariant-claims
invariant-claims l = find (λ (c : Claim). same_parties c.party l.party) (drop l.claim-index l.claims) ≡ find (λ (c : Claim). same_parties c.party l.party) l.claims
