use Rattle.xl_core.proofs.TriedLaws.{tick_goes_on}
use Rattle.xl_core.proofs.deeds.expiries_are_stored.Goals as goal

pub returns-clause-on : goal.returns-clause-on
returns-clause-on c = tick_goes_on
