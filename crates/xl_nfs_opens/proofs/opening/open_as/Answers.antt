use Rattle.xl_nfs.specs.Opens.{shown_open_args}
use Rattle.std.specs.Prelude.{Err, Some}
use Rattle.xl_nfs_opens.proofs.BehindLaws.{open_done}
use Rattle.xl_nfs_opens.proofs.opening.open_as.Goals as goal

pub returns-in_ok-said-in-Err-clause-done : goal.returns-in_ok-said-in-Err-clause-done
returns-in_ok-said-in-Err-clause-done g c = λ n may. rw c.beside.ensures (open_done n c.args.opening.now.exported.files.now c.args.opening.now.exported.others c.args.core.now c.args.state.now (Some c.args.opening.now.at) c.args.opening.now.at c.args.opening.now.opener.now (shown_open_args c.args.opening.now.args.now) c.args.confirmed (Err c.in-Err.status) _ c.in-Err.ensures.value (c.in_ok-said-in-Err.ensures.done n c.args.core.now))
