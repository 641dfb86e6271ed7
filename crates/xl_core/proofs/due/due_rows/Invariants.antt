use Rattle.std.proofs.Common.{◌≡◌, ◌++◌, map, drop}
use Rattle.xl_core.specs.BreakAnswers.{due_row}
use Rattle.xl_core.proofs.due.due_rows.Given as goal

abbrev pub invariant-loop-cache : goal.invariant-loop-cache
invariant-loop-cache l = l.rows.items ++ map (due_row l.names) (drop l.cache-index l.caches) ≡ map (due_row l.names) l.caches
