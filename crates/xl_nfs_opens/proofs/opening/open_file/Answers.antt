use Rattle.xl_nfs.specs.Opens.{shown_open_args}
use Rattle.xl_core.specs.Ids.{number_in}
use Rattle.xl_nfs_opens.specs.Opens.{open_claimed, open_file}
use Rattle.xl_nfs_opens.proofs.BehindLaws.{renewing_done}
use Rattle.xl_nfs_opens.proofs.opening.open_file.Goals as goal

pub returns-clause-done : goal.returns-clause-done
unfolding open_file
returns-clause-done g c = λ n may. (let a = shown_open_args c.args.args.now in renewing_done n c.args.core.now c.renew_for.new.core c.args.state.now c.number_in-client.result (number_in c.args.core.now a.owner.clientid) (λ t. open_claimed c.args.exported.now.files.now c.args.exported.now.others t c.args.state.now c.args.current a) _ c.number_in-client.ensures (c.in_ok-renew_for.ensures.done n) (c.in_ok-renew_for.ensures.told n) (c.in_ok-done.ensures.done n may))

pub returns-clause-keeper : goal.returns-clause-keeper
returns-clause-keeper g c = λ before told. c.in_ok-done.ensures.keeper before (c.in_ok-renew_for.ensures.quiet before _ told)
