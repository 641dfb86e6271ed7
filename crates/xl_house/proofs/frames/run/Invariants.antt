use Rattle.xl_plan.specs.Keepers.{HandsTo}
use Rattle.xl_house.specs.Machine.{steps_left}
use Rattle.xl_house.specs.Whole.{ground_of}
use Rattle.xl_house.proofs.RunLaws.{Runs}
use Rattle.xl_house.proofs.frames.run.Given as goal

abbrev pub invariant-frames : goal.invariant-frames
invariant-frames g l =
    Runs (ground_of l.ground) (l.fn.going, l.fn.layers.front, l.fn.layers.core) (l.going, l.layers.front, l.layers.core)
    × HandsTo g.K.Keeper.held g.K.Keeper.given g.K.Keeper.faults g.K.Keeper.left l.fn.layers.core l.layers.core l.fn.keeper l.keeper

abbrev pub decreases-frames : goal.decreases-frames
decreases-frames g l = steps_left l.going
