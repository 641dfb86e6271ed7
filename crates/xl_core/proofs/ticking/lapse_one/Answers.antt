use Rattle.xl_core.specs.Ticks.{try_lapse}
use Rattle.xl_core.specs.Whole.{state_of}
use Rattle.xl_core.proofs.GoodLaws.{try_lapse_good}
use Rattle.xl_core.proofs.TickCode.{tried_good}
use Rattle.xl_core.proofs.ticking.lapse_one.Goals as goal

pub returns-in_ok-push_all-clause-good : goal.returns-in_ok-push_all-clause-good
returns-in_ok-push_all-clause-good g c = tried_good (λ n s. try_lapse n s c.args.cache.now) (state_of c.args.parts.now) (state_of c.lapse.new.parts) c.in_ok-told.told (λ n. try_lapse_good n (state_of c.args.parts.now) c.args.cache.now c.requires.good) c.in_ok-told.ensures.state
