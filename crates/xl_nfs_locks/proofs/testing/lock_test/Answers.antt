use Rattle.xl_nfs.specs.Locks.{shown_lock_test_args}
use Rattle.xl_core.specs.Ids.{number_in}
use Rattle.xl_nfs_opens.proofs.BehindLaws.{renewing_done}
use Rattle.xl_nfs_locks.specs.Tests.{lock_test, test_at}
use Rattle.xl_nfs_locks.proofs.testing.lock_test.Goals as goal

pub returns-clause-done : goal.returns-clause-done
unfolding lock_test
returns-clause-done g c = λ n may. (let a = shown_lock_test_args c.args.args.now in renewing_done n c.args.core.now c.renew_for.new.core c.args.state.now c.number_in-client.result (number_in c.args.core.now a.owner.clientid) (λ t. test_at t c.args.state.now a c.args.current) _ c.number_in-client.ensures (c.in_ok-renew_for.ensures.done n) (c.in_ok-renew_for.ensures.told n) (c.in_ok-done.ensures.done n may))

pub returns-clause-keeper : goal.returns-clause-keeper
returns-clause-keeper g c = λ before told. c.in_ok-done.ensures.keeper before (c.in_ok-renew_for.ensures.quiet before _ told)
