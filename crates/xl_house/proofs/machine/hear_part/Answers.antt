use Rattle.xl_house.proofs.HearLaws.{part_ready, part_leaves, lease_short}
use Rattle.xl_house.proofs.QuietLaws.{smb_quiet}
use Rattle.xl_plan.proofs.KeeperLaws.{hands_quiet, hands_then, quiet_same}
use Rattle.xl_house.proofs.machine.hear_part.Goals as goal

pub smb_step-requires : goal.smb_step-requires
smb_step-requires g c = record { ready = record { good = c.requires.ready.core.good; numbers = c.requires.ready.core.numbers } }

pub sent_with-requires : goal.sent_with-requires
sent_with-requires g c =
    let quiet = smb_quiet c.args.exports.now c.nfs_opens-others.result c.args.layers.now.front.smb _ c.args.layers.now.core _ c.args.number c.args.bytes.now c.in_ok-reply.reply c.in_ok-reply.effects c.requires.ready.core.good c.in_ok-reply.ensures.state in
    record { fits = c.in_ok-reply.ensures.little; ready = part_ready 3 _ _ c.in_ok-reply.effects lease_short quiet c.requires.ready c.in_ok-reply.ensures.leaves }

pub returns-clause-leaves : goal.returns-clause-leaves
returns-clause-leaves g c =
    let quiet = smb_quiet c.args.exports.now c.nfs_opens-others.result c.args.layers.now.front.smb _ c.args.layers.now.core _ c.args.number c.args.bytes.now c.in_ok-reply.reply c.in_ok-reply.effects c.requires.ready.core.good c.in_ok-reply.ensures.state in
    part_leaves 3 _ _ _ c.in_ok-reply.effects lease_short quiet c.in_ok-reply.ensures.leaves c.in_ok-outs.ensures.leaves

pub returns-clause-keeper : goal.returns-clause-keeper
returns-clause-keeper g c =
    hands_then g.K.Keeper.held g.K.Keeper.given g.K.Keeper.faults g.K.Keeper.left _ c.smb_step.new.core _ _ _ _ c.in_ok-reply.ensures.keeper
    (hands_quiet g.K.Keeper.held g.K.Keeper.given g.K.Keeper.faults g.K.Keeper.left _ _ _ (quiet_same _ _ c.in_ok-outs.ensures.aside))
