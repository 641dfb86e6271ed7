use Rattle.xl_front_nfs.proofs.ClientLaws.{held_done}
use Rattle.xl_front_nfs.proofs.confirming.confirm_held.Goals as goal

pub returns-clause-done : goal.returns-clause-done
returns-clause-done c = λ n.
    rw c.new.ensures
    (held_done n c.args.core.now c.renewed.new.core c.args.state.now c.args.current c.args.number c.args.verifier.now c.in-Some.row.now c.as_slice.result.now c.held_status-status.result
    c.in-Some.ensures c.held_status-status.ensures c.as_slice.ensures (c.in_ok-renewed.ensures.state n) (c.renewed.ensures.told n))
