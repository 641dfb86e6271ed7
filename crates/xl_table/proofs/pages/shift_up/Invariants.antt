use Rattle.std.proofs.Common.{◌-◌, ◌≤◌}
use Rattle.xl_table.specs.Pages.{IsShifting}
use Rattle.xl_table.proofs.pages.shift_up.Given as goal

abbrev pub decreases-claims : goal.decreases-claims
decreases-claims l = l.to - l.at

abbrev pub invariant-claims : goal.invariant-claims
invariant-claims l = IsShifting l.from l.at l.fn.pages.items l.pages.items × (l.at ≤ l.to)
