use Rattle.xl_nfs.specs.Opens.{shown_open_args}
use Rattle.xl_nfs_opens.specs.Opens.{claim_client, open_at, open_claimed}
use Rattle.xl_nfs_opens.proofs.BehindLaws.{renewing_done}
use Rattle.xl_nfs_opens.proofs.opening.open_claimed.Goals as goal

pub returns-clause-done : goal.returns-clause-done
unfolding open_claimed
returns-clause-done g c = λ n may. (let a = shown_open_args c.args.args.now in renewing_done n c.args.core.now c.renew_for.new.core c.args.state.now c.claim_client-client.result (claim_client c.args.core.now c.args.state.now a.claim) (λ t. open_at c.args.exported.now.files.now c.args.exported.now.others t c.args.state.now a c.args.current) _ c.claim_client-client.ensures (c.in_ok-renew_for.ensures.done n) (c.in_ok-renew_for.ensures.told n) (c.in_ok-done.ensures.done n may))

pub returns-clause-keeper : goal.returns-clause-keeper
returns-clause-keeper g c = λ before told. c.in_ok-done.ensures.keeper before (c.in_ok-renew_for.ensures.quiet before _ told)
