use Rattle.xl_core.specs.Whole.{state_of}
use Rattle.xl_core.proofs.TickCode.{store_good}
use Rattle.xl_core.proofs.ticking.forget.Goals as goal

pub returns-clause-good : goal.returns-clause-good
returns-clause-good g c = store_good c.store.result (state_of c.args.parts.now) (state_of c.store.new.parts) _ c.store.ensures.state
