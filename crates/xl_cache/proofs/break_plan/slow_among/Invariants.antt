use Rattle.std.proofs.Common.{◌≡◌, find, drop}
use Rattle.xl_cache.specs.BreakPlans.{is_slow}
use Rattle.xl_cache.proofs.break_plan.slow_among.Given as goal

abbrev pub invariant-breaks : goal.invariant-breaks
invariant-breaks l = find is_slow (drop l.begun-index l.breaks) ≡ find is_slow l.breaks
