use Rattle.std.proofs.Common.{◌≡◌, arith}
use Rattle.xl_plan.proofs.KeeperLaws.{hands_by, hands_quiet, hands_then, quiet_same}
use Rattle.xl_house.proofs.HearLaws.{front_ready, front_leaves, tick_leaves}
use Rattle.xl_house.proofs.QuietLaws.{reading_quiet}
use Rattle.xl_house.specs.Telling.{grants}
use Rattle.xl_house.proofs.machine.hear_tick.Goals as goal

pub sent_for-requires : goal.sent_for-requires
sent_for-requires g c =
    let old = c.args.layers.now.core in
    let ticked = c.in_ok-effects.ensures.state in
    let none : grants c.in_ok-effects.effects ≡ 0 = reading_quiet old c.tick.new.self c.args.now c.in_ok-effects.effects ticked in
    record { ready = front_ready 0 _ _ c.in_ok-effects.effects (λ name is. is) (omega arith) none c.requires.ready (tick_leaves old c.tick.new.self c.args.now c.in_ok-effects.effects c.requires.ready ticked) }

pub returns-clause-leaves : goal.returns-clause-leaves
returns-clause-leaves g c =
    let old = c.args.layers.now.core in
    let ticked = c.in_ok-effects.ensures.state in
    let none : grants c.in_ok-effects.effects ≡ 0 = reading_quiet old c.tick.new.self c.args.now c.in_ok-effects.effects ticked in
    front_leaves 0 _ _ _ c.in_ok-effects.effects (λ name is. is) (omega arith) none (tick_leaves old c.tick.new.self c.args.now c.in_ok-effects.effects c.requires.ready ticked) c.in_ok-outs.ensures.leaves

pub returns-clause-keeper : goal.returns-clause-keeper
returns-clause-keeper g c =
    hands_then g.K.Keeper.held g.K.Keeper.given g.K.Keeper.faults g.K.Keeper.left _ c.tick.new.self _ _ _ _
    (hands_by g.K.Keeper.held g.K.Keeper.given g.K.Keeper.faults g.K.Keeper.left _ _ _ _ c.in_ok-effects.ensures.keeper c.in_ok-effects.ensures.on)
    (hands_quiet g.K.Keeper.held g.K.Keeper.given g.K.Keeper.faults g.K.Keeper.left _ _ _ (quiet_same _ _ c.in_ok-outs.ensures.aside))
