use Rattle.std.proofs.Common.{arith}
use Rattle.xl_front_nfs.specs.FrontNfs.{most_drawn}
use Rattle.xl_house.proofs.HearLaws.{nfs_ready, nfs_leaves}
use Rattle.xl_house.proofs.QuietLaws.{nfs_quiet}
use Rattle.xl_programs.specs.Programs.{shown_request}
use Rattle.xl_plan.proofs.KeeperLaws.{hands_quiet, hands_then, quiet_same}
use Rattle.xl_house.proofs.machine.hear_nfs.Goals as goal

pub nfs_step-requires : goal.nfs_step-requires
nfs_step-requires g c = record { known = c.requires.known; ready = record { good = c.requires.ready.core.good; numbers = omega (arith, c.requires.ready.core.numbers) } }

pub sent_with-requires : goal.sent_with-requires
sent_with-requires g c =
    let quiet = nfs_quiet c.args.exports.now c.opens_held-others.result c.args.layers.now.front.nfs c.nfs_step.new.front c.args.layers.now.core c.nfs_step.new.core c.args.number (shown_request c.args.request.now) c.in_ok-reply.reply c.in_ok-reply.effects c.requires.ready.core.good c.in_ok-reply.ensures.state in
    record { fits = c.in_ok-reply.ensures.little; ready = nfs_ready most_drawn _ _ c.in_ok-reply.effects (omega arith) quiet c.requires.ready c.in_ok-reply.ensures.leaves }

pub returns-clause-leaves : goal.returns-clause-leaves
returns-clause-leaves g c =
    let quiet = nfs_quiet c.args.exports.now c.opens_held-others.result c.args.layers.now.front.nfs c.nfs_step.new.front c.args.layers.now.core c.nfs_step.new.core c.args.number (shown_request c.args.request.now) c.in_ok-reply.reply c.in_ok-reply.effects c.requires.ready.core.good c.in_ok-reply.ensures.state in
    nfs_leaves most_drawn _ _ _ c.in_ok-reply.effects (omega arith) quiet c.in_ok-reply.ensures.leaves c.in_ok-outs.ensures.leaves

pub returns-clause-keeper : goal.returns-clause-keeper
returns-clause-keeper g c =
    hands_then g.K.Keeper.held g.K.Keeper.given g.K.Keeper.faults g.K.Keeper.left _ c.nfs_step.new.core _ _ _ _ c.in_ok-reply.ensures.keeper
    (hands_quiet g.K.Keeper.held g.K.Keeper.given g.K.Keeper.faults g.K.Keeper.left _ _ _ (quiet_same _ _ c.in_ok-outs.ensures.aside))
