use Rattle.std.proofs.lemmas.Result.{IfOk-weaker}
use Rattle.xl_front_nfs.proofs.ClientLaws.{confirm_done}
use Rattle.xl_front_nfs.proofs.confirming.set_client_id_confirm.Goals as goal

pub returns-clause-done : goal.returns-clause-done
returns-clause-done c = λ n. IfOk-weaker c.confirm_found.result _ _
    (λ r is. confirm_done n c.args.core.now c.args.state.now c.args.current c.args.args.now c.in-Some.number c.in_ok-found.found _ c.in-Some.ensures c.in_ok-found.ensures is)
    (c.confirm_found.ensures.done n)
