use Rattle.std.proofs.Common.{◌≡◌, ◌++◌, map, drop}
use Rattle.xl_core.specs.BreaksInOrder.{row_of}
use Rattle.xl_core.proofs.breaks.rows_of.Given as goal

abbrev pub invariant-loop-begun : goal.invariant-loop-begun
invariant-loop-begun l = l.rows.items ++ map (row_of l.names) (drop l.begun-index l.breaks) ≡ map (row_of l.names) l.breaks
