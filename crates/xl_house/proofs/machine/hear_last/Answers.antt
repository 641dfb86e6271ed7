use Rattle.std.proofs.Common.{arith}
use Rattle.xl_plan.proofs.KeeperLaws.{quiet_same}
use Rattle.xl_house.proofs.HearLaws.{front_ready, front_leaves, lease_short}
use Rattle.xl_house.proofs.QuietLaws.{last_quiet}
use Rattle.xl_house.proofs.machine.hear_last.Goals as goal

pub smb_end-requires : goal.smb_end-requires
smb_end-requires c = record { ready = record { good = c.requires.ready.core.good; numbers = omega (arith, c.requires.ready.core.numbers) } }

pub sent_for-requires : goal.sent_for-requires
sent_for-requires c =
    let quiet = last_quiet c.args.layers.now.front.smb _ c.args.layers.now.core _ c.args.number c.in_ok-effects.effects c.requires.ready.core.good c.in_ok-effects.ensures.state in
    record { ready = front_ready 0 _ _ c.in_ok-effects.effects lease_short (omega arith) quiet c.requires.ready c.in_ok-effects.ensures.leaves }

pub returns-clause-leaves : goal.returns-clause-leaves
returns-clause-leaves c =
    let quiet = last_quiet c.args.layers.now.front.smb _ c.args.layers.now.core _ c.args.number c.in_ok-effects.effects c.requires.ready.core.good c.in_ok-effects.ensures.state in
    front_leaves 0 _ _ _ c.in_ok-effects.effects lease_short (omega arith) quiet c.in_ok-effects.ensures.leaves c.in_ok-outs.ensures.leaves

pub returns-clause-quiet : goal.returns-clause-quiet
returns-clause-quiet c = λ before now told. quiet_same _ _ c.in_ok-outs.ensures.aside before now (c.in_ok-effects.ensures.quiet before now told)
