use Rattle.xl_nfs_locks.specs.Releases.{release, release_of}
use Rattle.xl_nfs_opens.proofs.BehindLaws.{renewing_done}
use Rattle.xl_core.specs.Ids.{number_in}
use Rattle.xl_nfs_opens.specs.Opens.{client_in}
use Rattle.xl_nfs_locks.proofs.releasing.release.Goals as goal

pub returns-clause-done : goal.returns-clause-done
unfolding release
returns-clause-done c = λ n.
    renewing_done n c.args.core.now c.renew_for.new.core c.args.state.now c.number_in-client.result (number_in c.args.core.now c.args.args.now.clientid) (λ t. release_of t c.args.state.now c.args.current c.args.args.now.owner.now (client_in t c.args.state.now c.args.args.now.clientid)) _ c.number_in-client.ensures (c.in_ok-renew_for.ensures.done n) (c.in_ok-renew_for.ensures.told n) (c.in_ok-done.ensures n)
