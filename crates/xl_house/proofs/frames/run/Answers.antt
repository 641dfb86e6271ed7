use Rattle.xl_plan.proofs.KeeperLaws.{hands_then}
use Rattle.xl_house.specs.Whole.{ground_of}
use Rattle.xl_house.proofs.RunLaws.{run_ends, run_goes, run_less, run_ready, test_ends, test_goes}
use Rattle.xl_house.proofs.frames.run.Goals as goal

pub advance-requires : goal.advance-requires
advance-requires g c = record { ready = run_ready (ground_of c.args.ground.now) _ (c.frames.going, c.frames.layers.front, c.frames.layers.core) (test_goes _ _ c.is_empty.ensures c.frames-test.true) c.frames.invariant.0 }

pub frames-smaller : goal.frames-smaller
frames-smaller g c =
    run_less (ground_of c.args.ground.now) (c.frames.going, c.frames.layers.front, c.frames.layers.core) (c.in_ok-going.going, c.advance.new.layers.front, c.advance.new.layers.core) (test_goes _ _ c.is_empty.ensures c.frames-test.true) c.in_ok-going.ensures.state

pub frames-preserved : goal.frames-preserved
frames-preserved g c = (
  run_goes (ground_of c.args.ground.now) _ (c.frames.going, c.frames.layers.front, c.frames.layers.core) (c.in_ok-going.going, c.advance.new.layers.front, c.advance.new.layers.core) (test_goes _ _ c.is_empty.ensures c.frames-test.true) c.in_ok-going.ensures.state c.in_ok-going.ensures.leaves c.frames.invariant.0,
  hands_then g.K.Keeper.held g.K.Keeper.given g.K.Keeper.faults g.K.Keeper.left _ _ _ _ _ _ c.frames.invariant.1 c.in_ok-going.ensures.keeper,
)

pub returns-clause-state : goal.returns-clause-state
returns-clause-state g c = λ n may. run_ends (ground_of c.args.ground.now) _ (c.frames.going, c.frames.layers.front, c.frames.layers.core) (test_ends _ _ c.is_empty.ensures c.frames-test.false) c.frames.invariant.0 n may
