use Rattle.xl_front_nfs.proofs.ClientLaws.{confirm_first_done}
use Rattle.xl_front_nfs.proofs.confirming.confirm_first.Goals as goal

pub returns-clause-done : goal.returns-clause-done
returns-clause-done c = λ n.
    rw c.new.ensures
    (confirm_first_done n c.args.core.now c.renewed.new.core c.args.state.now c.come.new.state c.args.current c.args.number c.args.row c.as_slice.result.now
    c.as_slice.ensures c.requires.free (c.in_ok-renewed.ensures.state n) (c.renewed.ensures.told n) c.in_ok-come.ensures)
