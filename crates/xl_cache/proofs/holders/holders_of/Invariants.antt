use Rattle.std.proofs.Common.{◌≡◌, ◌||◌, drop}
use Rattle.std.specs.List.{list_any}
use Rattle.xl_matrix.specs.declared.claim.Claim.{Claim}
use Rattle.xl_cache.specs.Holders.{is_among, are_beside}
use Rattle.xl_cache.proofs.holders.holders_of.Given as goal

abbrev pub invariant-loop-claim : goal.invariant-loop-claim
invariant-loop-claim l = (c : Claim) → (is_among l.holders.keys c || list_any (are_beside c) (drop l.claim-index l.claims)) ≡ list_any (are_beside c) l.claims
