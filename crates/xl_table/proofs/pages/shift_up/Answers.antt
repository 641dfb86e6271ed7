use Rattle.xl_table.proofs.PageLaws.{step_up}
use Rattle.xl_table.proofs.pages.shift_up.Goals as goal

pub claims-preserved : goal.claims-preserved
claims-preserved c = step_up c.args.from c.args.to c.claims.at c.args.pages.now.items c.claims.pages.items c.copy.new.pages.items c.claims.invariant.0 c.claims-test.true c.requires.within c.copy.ensures.set c.copy.ensures.full
