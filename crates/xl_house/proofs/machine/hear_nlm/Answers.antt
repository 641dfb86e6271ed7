use Rattle.std.proofs.Common.{arith}
use Rattle.xl_house.proofs.HearLaws.{front_ready, front_leaves}
use Rattle.xl_house.proofs.QuietLaws.{step_quiet}
use Rattle.xl_programs.specs.Programs.{shown_request}
use Rattle.xl_plan.proofs.KeeperLaws.{hands_quiet, hands_then, quiet_same}
use Rattle.xl_house.proofs.machine.hear_nlm.Goals as goal

pub sent_with-requires : goal.sent_with-requires
sent_with-requires g c =
    let quiet = step_quiet c.args.exports.now c.args.layers.now.front.nlm c.nlm_step.new.layers.0 c.args.layers.now.core c.nlm_step.new.layers.1.0 c.args.number (shown_request c.args.request.now) c.in_ok-reply.reply c.in_ok-reply.effects c.requires.ready.core.good c.in_ok-reply.ensures.state in
    record { fits = c.in_ok-reply.ensures.little; ready = front_ready 2 _ _ c.in_ok-reply.effects (λ name is. is) (omega arith) quiet c.requires.ready c.in_ok-reply.ensures.leaves }

pub returns-clause-leaves : goal.returns-clause-leaves
returns-clause-leaves g c =
    let quiet = step_quiet c.args.exports.now c.args.layers.now.front.nlm c.nlm_step.new.layers.0 c.args.layers.now.core c.nlm_step.new.layers.1.0 c.args.number (shown_request c.args.request.now) c.in_ok-reply.reply c.in_ok-reply.effects c.requires.ready.core.good c.in_ok-reply.ensures.state in
    front_leaves 2 _ _ _ c.in_ok-reply.effects (λ name is. is) (omega arith) quiet c.in_ok-reply.ensures.leaves c.in_ok-outs.ensures.leaves

pub returns-clause-keeper : goal.returns-clause-keeper
returns-clause-keeper g c =
    hands_then g.K.Keeper.held g.K.Keeper.given g.K.Keeper.faults g.K.Keeper.left _ c.nlm_step.new.layers.1.0 _ _ _ _ c.in_ok-reply.ensures.keeper
    (hands_quiet g.K.Keeper.held g.K.Keeper.given g.K.Keeper.faults g.K.Keeper.left _ _ _ (quiet_same _ _ c.in_ok-outs.ensures.aside))
