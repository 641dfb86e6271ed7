use Rattle.xl_cache.proofs.HolderLaws.{one_noted}
use Rattle.xl_cache.proofs.holders.holders_of.Goals as goal

pub loop-claim-preserved : goal.loop-claim-preserved
loop-claim-preserved c = λ d. one_noted c.args.claims.now c.loop-claim.claim-index _ d _ _ c.loop-claim-test.true (c.in_ok-add.ensures d) (c.loop-claim.invariant d)
