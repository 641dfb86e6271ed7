use Rattle.xl_front_nfs.proofs.ClientLaws.{confirm_again_done}
use Rattle.xl_front_nfs.proofs.confirming.confirm_again.Goals as goal

pub returns-clause-done : goal.returns-clause-done
returns-clause-done c = λ n.
    rw c.new.ensures
    (confirm_again_done n c.args.core.now c.renewed.new.core c.args.state.now c.come_again.new.state c.args.current c.args.number c.args.row c.as_slice.result.now
    c.as_slice.ensures c.requires.there (c.in_ok-renewed.ensures.state n) (c.renewed.ensures.told n) c.come_again.ensures)
