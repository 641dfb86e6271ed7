use Rattle.xl_front_nfs.proofs.ClientLaws.{confirm_anew_done}
use Rattle.xl_front_nfs.proofs.confirming.confirm_anew.Goals as goal

pub returns-clause-done : goal.returns-clause-done
returns-clause-done c = λ n.
    confirm_anew_done n c.args.core.now c.ended_and_renewed.new.core c.args.state.now c.forget.new.state c.come.new.state c.args.current c.args.number c.args.old c.args.row c.as_slice.result.now c.in_ok-effects.effects
    c.as_slice.ensures c.requires.there c.requires.other (c.in_ok-effects.ensures.state n) (c.in_ok-effects.ensures.told n) c.forget.ensures.lists c.in_ok-come.ensures
