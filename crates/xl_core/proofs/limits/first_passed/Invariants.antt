use Rattle.std.proofs.Common.{◌≡◌, drop}
use Rattle.xl_core.specs.Limits.{first_passed}
use Rattle.xl_core.proofs.limits.first_passed.Given as goal

abbrev pub invariant-loop-limit : goal.invariant-loop-limit
invariant-loop-limit l = first_passed (drop l.limit-index l.limits) ≡ first_passed l.limits
