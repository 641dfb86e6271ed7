use Rattle.xl_front_nfs.proofs.ClientLaws.{renew_done}
use Rattle.xl_front_nfs.proofs.clients.renew.Goals as goal

pub returns-clause-done : goal.returns-clause-done
returns-clause-done c = λ n.
    rw c.new.ensures
    (renew_done n c.args.core.now c.renewed.new.core c.args.state.now c.args.current c.args.clientid c.in-Some.number c.in-Some-find_client.row.now c.as_slice.result.now
    c.in-Some.ensures c.in-Some-find_client.ensures c.as_slice.ensures (c.in_ok-renewed.ensures.state n) (c.renewed.ensures.told n))
