use Rattle.xl_nfs.specs.Opens.{shown_open_args}
use Rattle.xl_nfs_opens.proofs.BehindLaws.{at_done}
use Rattle.xl_nfs_opens.proofs.OpenerLaws.{opener_there}
use Rattle.xl_nfs_opens.proofs.opening.open_at.Goals as goal

pub open_judged-requires-clause-client : goal.open_judged-requires-clause-client
open_judged-requires-clause-client g c = opener_there c.args.core.now c.args.state.now (shown_open_args c.args.args.now) c.in-Some-client_in.row.now c.in_ok-opener.opener c.in-Some-client_in.ensures c.in_ok-opener.ensures

pub returns-clause-done : goal.returns-clause-done
returns-clause-done g c = λ n may.
    rw c.in-Some.is
    (at_done n c.args.exported.now.files.now c.args.exported.now.others c.args.core.now c.args.state.now c.in-Some.at (shown_open_args c.args.args.now) c.in-Some-client_in.row.now c.in_ok-opener.opener c.judge-judged.result _ c.in-Some-client_in.ensures c.in_ok-opener.ensures c.judge-judged.ensures (c.in_ok-done.ensures.done n may))
