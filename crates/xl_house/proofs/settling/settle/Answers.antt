use Rattle.std.proofs.Common.{List, Option, Ok, ap}
use Rattle.xl_plan.proofs.KeeperLaws.{hands_by, hands_quiet, hands_then, quiet_same}
use Rattle.xl_core.specs.declared.ask.Effect.{Effect}
use Rattle.xl_house.proofs.SettleLaws.{settling_numbers, turn_ready, turn_smaller, turn_preserves, ended_state, ended_settled, ended_leaves}
use Rattle.xl_house.proofs.settling.settle.Goals as goal

pub settle-requires : goal.settle-requires
settle-requires g c = record {
  good = c.turns.invariant.1.0;
  numbers = settling_numbers c.args.exports.now c.args.layers.now.front c.args.layers.now.core c.args.outs.now c.turns.layers.front c.turns.layers.core c.turns.outs c.turns.invariant.0 c.requires.ready;
}

pub show_all-requires : goal.show_all-requires
show_all-requires g c =
    record {
      ready = rw c.as_slice.ensures
          (turn_ready c.args.exports.now c.args.layers.now.front c.args.layers.now.core c.args.outs.now c.turns.layers.front c.turns.layers.core c.settle.new.self c.turns.outs c.in_ok-effects.field-0 c.in-Some.effects c.turns.invariant.0 c.turns.invariant.1.0 (λ n may. rw (← c.rooms.ensures) (c.in_ok-effects.ensures.state n may)) c.in-Some.is c.requires.ready);
    }

pub turns-smaller : goal.turns-smaller
turns-smaller g c =
    turn_smaller c.args.exports.now c.turns.layers.front c.show_all.new.layers.front c.turns.layers.core c.settle.new.self c.show_all.new.layers.core c.in_ok-effects.field-0 c.in-Some.effects c.turns.outs c.show_all.new.outs c.turns.invariant.1.0 (λ n may. rw (← c.rooms.ensures) (c.in_ok-effects.ensures.state n may)) c.in-Some.is (rw (← c.as_slice.ensures) c.in_ok-show_all.ensures.sent)

pub turns-preserved : goal.turns-preserved
turns-preserved g c = (
  turn_preserves c.args.exports.now c.args.layers.now.front c.args.layers.now.core c.args.outs.now c.turns.layers.front c.show_all.new.layers.front c.turns.layers.core c.settle.new.self c.show_all.new.layers.core c.turns.outs c.show_all.new.outs c.in_ok-effects.field-0 c.in-Some.effects c.turns.invariant.0 c.turns.invariant.1.0 (λ n may. rw (← c.rooms.ensures) (c.in_ok-effects.ensures.state n may)) c.in-Some.is c.in_ok-effects.ensures.on (rw (← c.as_slice.ensures) c.in_ok-show_all.ensures.sent),
  (
    c.in_ok-show_all.ensures.leaves.good,
    hands_then g.K.Keeper.held g.K.Keeper.given g.K.Keeper.faults g.K.Keeper.left _ _ _ _ _ _ c.turns.invariant.1.1
        (hands_then g.K.Keeper.held g.K.Keeper.given g.K.Keeper.faults g.K.Keeper.left _ c.settle.new.self _ _ _ _
        (hands_by g.K.Keeper.held g.K.Keeper.given g.K.Keeper.faults g.K.Keeper.left _ _ _ _ c.in_ok-effects.ensures.keeper c.in_ok-effects.ensures.on)
        (hands_quiet g.K.Keeper.held g.K.Keeper.given g.K.Keeper.faults g.K.Keeper.left _ _ _ (quiet_same _ _ c.in_ok-show_all.ensures.aside))),
  ),
)

pub returns-clause-state : goal.returns-clause-state
returns-clause-state g c =
    ended_state c.args.exports.now c.args.layers.now.front c.args.layers.now.core c.args.outs.now c.turns.layers.front c.turns.layers.core c.settle.new.self c.turns.outs c.in_ok-effects.field-0 c.turns.invariant.0 (λ n may. rw (← c.rooms.ensures) (c.in_ok-effects.ensures.state n may)) c.in_default.is (c.in_ok-effects.ensures.none (ap (λ (t : Option (List Effect)). Ok t) c.in_default.is))

pub returns-clause-settled : goal.returns-clause-settled
returns-clause-settled g c = ended_settled c.turns.layers.front c.turns.layers.core c.settle.new.self c.in_ok-effects.field-0 (λ n may. rw (← c.rooms.ensures) (c.in_ok-effects.ensures.state n may)) c.in_default.is (c.in_ok-effects.ensures.none (ap (λ (t : Option (List Effect)). Ok t) c.in_default.is))

pub returns-clause-leaves : goal.returns-clause-leaves
returns-clause-leaves g c = ended_leaves c.args.exports.now c.args.layers.now.front c.args.layers.now.core c.args.outs.now c.turns.layers.front c.turns.layers.core c.settle.new.self c.turns.outs c.turns.invariant.0 c.turns.invariant.1.0 (c.in_ok-effects.ensures.none (ap (λ (t : Option (List Effect)). Ok t) c.in_default.is))

pub returns-clause-keeper : goal.returns-clause-keeper
returns-clause-keeper g c =
    hands_then g.K.Keeper.held g.K.Keeper.given g.K.Keeper.faults g.K.Keeper.left _ c.turns.layers.core _ _ _ _ c.turns.invariant.1.1
    (hands_by g.K.Keeper.held g.K.Keeper.given g.K.Keeper.faults g.K.Keeper.left _ _ _ _ c.in_ok-effects.ensures.keeper c.in_ok-effects.ensures.on)
