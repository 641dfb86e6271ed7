use Rattle.std.proofs.Common.{arith, option_map}
use Rattle.xl_house.proofs.HearLaws.{front_ready, front_leaves}
use Rattle.xl_house.proofs.QuietLaws.{answer_quiet}
use Rattle.xl_plan.proofs.KeeperLaws.{hands_quiet, hands_then, quiet_same}
use Rattle.xl_house.proofs.machine.hear_answer.Goals as goal

pub sent_for-requires : goal.sent_for-requires
sent_for-requires g c =
    let quiet = answer_quiet c.args.layers.now.front.nlm c.nlm_called.new.layers.0 c.args.layers.now.core c.nlm_called.new.layers.1.0 c.args.call (option_map (λ bytes. bytes.now) c.bytes_of.result) c.in_ok-effects.effects c.requires.ready.core.good c.in_ok-effects.ensures.state in
    record { ready = front_ready 2 _ _ c.in_ok-effects.effects (λ name is. is) (omega arith) quiet c.requires.ready c.in_ok-effects.ensures.leaves }

pub returns-clause-leaves : goal.returns-clause-leaves
returns-clause-leaves g c =
    let quiet = answer_quiet c.args.layers.now.front.nlm c.nlm_called.new.layers.0 c.args.layers.now.core c.nlm_called.new.layers.1.0 c.args.call (option_map (λ bytes. bytes.now) c.bytes_of.result) c.in_ok-effects.effects c.requires.ready.core.good c.in_ok-effects.ensures.state in
    front_leaves 2 _ _ _ c.in_ok-effects.effects (λ name is. is) (omega arith) quiet c.in_ok-effects.ensures.leaves c.in_ok-outs.ensures.leaves

pub returns-clause-keeper : goal.returns-clause-keeper
returns-clause-keeper g c =
    hands_then g.K.Keeper.held g.K.Keeper.given g.K.Keeper.faults g.K.Keeper.left _ c.nlm_called.new.layers.1.0 _ _ _ _ c.in_ok-effects.ensures.keeper
    (hands_quiet g.K.Keeper.held g.K.Keeper.given g.K.Keeper.faults g.K.Keeper.left _ _ _ (quiet_same _ _ c.in_ok-outs.ensures.aside))
