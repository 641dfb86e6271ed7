use Rattle.std.proofs.Common.{drop}
use Rattle.xl_table.proofs.TouchLaws.{AreLeft}
use Rattle.xl_table.proofs.touching.has_range.Given as goal

abbrev pub invariant-loop-list : goal.invariant-loop-list
invariant-loop-list l = AreLeft l.owner l.lists (drop l.list-index l.lists)
