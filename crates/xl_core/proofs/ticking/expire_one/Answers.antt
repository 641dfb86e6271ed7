use Rattle.xl_core.specs.Ticks.{try_expire}
use Rattle.xl_core.specs.Whole.{state_of}
use Rattle.xl_core.proofs.GoodLaws.{try_expire_good}
use Rattle.xl_core.proofs.TickCode.{tried_good}
use Rattle.xl_core.proofs.ticking.expire_one.Goals as goal

pub returns-in_ok-push_all-clause-good : goal.returns-in_ok-push_all-clause-good
returns-in_ok-push_all-clause-good g c = tried_good (λ n s. try_expire n s c.in_ok-id.id) (state_of c.args.parts.now) (state_of c.expire.new.parts) c.in_ok-told.told (λ n. try_expire_good n (state_of c.args.parts.now) c.in_ok-id.id c.requires.good) c.in_ok-told.ensures.state
