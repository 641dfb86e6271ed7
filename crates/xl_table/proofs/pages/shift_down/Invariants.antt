use Rattle.std.proofs.Common.{◌-◌, ◌≤◌}
use Rattle.xl_table.specs.Pages.{IsShifting}
use Rattle.xl_table.proofs.pages.shift_down.Given as goal

abbrev pub decreases-claims : goal.decreases-claims
decreases-claims l = l.at - l.to

abbrev pub invariant-claims : goal.invariant-claims
invariant-claims l = IsShifting l.from l.at l.fn.pages.items l.pages.items × (l.to ≤ l.at) × (l.at ≤ l.from)
