use Rattle.std.proofs.Common.{◌∙◌, sym, ap}
use Rattle.std.proofs.lemmas.Result.{IfOk-weaker}
use Rattle.xl_nfs.specs.Clients.{shown_set_client_id_args}
use Rattle.xl_nfs_state.specs.State.{NfsLists}
use Rattle.xl_front_nfs.specs.Clients.{set_beside, set_client_id}
use Rattle.xl_nfs_opens.specs.Plans.{carried}
use Rattle.xl_front_nfs.proofs.ClientLaws.{set_apart}
use Rattle.xl_front_nfs.proofs.setting.set_client_id.Goals as goal

pub returns-clause-done : goal.returns-clause-done
unfolding set_client_id
returns-clause-done c = λ n. IfOk-weaker c.set_beside.result _ _
    (λ r is.
    ap (λ (m : NfsLists). carried n c.args.core.now c.args.state.now (set_beside c.args.core.now m c.args.current (shown_set_client_id_args c.args.args.now))) (sym c.drop_named.ensures.lists)
    ∙ set_apart n c.args.core.now c.args.state.now c.drop_named.new.state c.args.current (shown_set_client_id_args c.args.args.now) ∙ is)
    (c.set_beside.ensures.done n)
