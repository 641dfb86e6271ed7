use Rattle.xl_core.specs.Good.{IsGood}
use Rattle.xl_core.specs.Settle.{turns_left}
use Rattle.xl_plan.specs.Keepers.{HandsTo}
use Rattle.xl_house.proofs.SettleLaws.{IsSettling}
use Rattle.xl_house.proofs.settling.settle.Given as goal

abbrev pub invariant-turns : goal.invariant-turns
invariant-turns g l =
    IsSettling l.exports l.fn.layers.front l.fn.layers.core l.fn.outs l.layers.front l.layers.core l.outs
    × (IsGood l.layers.core × HandsTo g.K.Keeper.held g.K.Keeper.given g.K.Keeper.faults g.K.Keeper.left l.fn.layers.core l.layers.core l.fn.keeper l.keeper)

abbrev pub decreases-turns : goal.decreases-turns
decreases-turns g l = turns_left l.layers.core
