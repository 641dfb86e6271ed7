use Rattle.std.proofs.Common.{◌∙◌, sym, ap}
use Rattle.std.proofs.lemmas.Result.{IfOk-weaker}
use Rattle.xl_nfs_state.specs.State.{NfsLists}
use Rattle.xl_front_nfs.specs.Clients.{confirm_beside}
use Rattle.xl_nfs_opens.specs.Plans.{carried}
use Rattle.xl_front_nfs.proofs.ClientLaws.{confirm_apart}
use Rattle.xl_front_nfs.proofs.confirming.confirm_found.Goals as goal

pub returns-in-Some-clause-done : goal.returns-in-Some-clause-done
returns-in-Some-clause-done c = λ n. IfOk-weaker c.confirm_beside.result _ _
    (λ r is.
    rw c.in-Some.is
    (ap (λ (m : NfsLists). carried n c.args.core.now c.args.state.now (confirm_beside c.args.core.now m c.args.current c.args.number c.in-Some.row)) (sym c.drop_number.ensures.lists)
    ∙ confirm_apart n c.args.core.now c.args.state.now c.drop_number.new.state c.args.current c.args.number c.in-Some.row ∙ is))
    (c.confirm_beside.ensures.done n)
