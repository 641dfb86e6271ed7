use Rattle.std.proofs.Common.{◌-◌}
use Rattle.xl_table.proofs.PageLaws.{IsTaking}
use Rattle.xl_table.proofs.pages.take_between.Given as goal

abbrev pub decreases-claims : goal.decreases-claims
decreases-claims l = l.end - l.start

abbrev pub invariant-claims : goal.invariant-claims
invariant-claims l = IsTaking l.start l.fn.end l.fn.pages.items l.pages.items l.end
