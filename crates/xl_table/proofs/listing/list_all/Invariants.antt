use Rattle.std.proofs.Common.{◌≡◌, ◌++◌, drop}
use Rattle.xl_table.specs.Files.{joined}
use Rattle.xl_table.proofs.listing.list_all.Given as goal

abbrev pub invariant-loop-list : goal.invariant-loop-list
invariant-loop-list l = l.all.items ++ joined (drop l.list-index l.lists) ≡ joined l.lists
