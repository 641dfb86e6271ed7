use Rattle.std.proofs.Common.{arith, ◌∙◌}
use Rattle.xl_front_nlm.proofs.LeaveLaws.{leaves_short}
use Rattle.xl_house.proofs.ShownLaws.{show_next}
use Rattle.xl_house.proofs.outs.show_each.Goals as goal

pub loop-effect-preserved : goal.loop-effect-preserved
loop-effect-preserved c =
    let invariant = c.loop-effect.invariant in
    let next = show_next c.args.exports.now c.loop-effect.layers.front c.show.new.layers.front c.loop-effect.layers.core c.show.new.layers.core c.args.effects.now c.loop-effect.effect-index c.effect-item.result c.loop-effect.outs c.show.new.outs c.loop-effect-test.true c.effect-item.is c.in_ok-show.ensures.state in
    (next.0 ∙ invariant.0, (c.in_ok-show.ensures.leaves.good, (leaves_short _ _ 2 c.in_ok-show.ensures.leaves invariant.1.1.0, omega (arith, next.1, invariant.1.1.1))))
