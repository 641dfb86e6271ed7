use Rattle.std.proofs.Common.{◌≡◌, ◌++◌, drop}
use Rattle.std.specs.List.{filter}
use Rattle.xl_table.specs.Flat.{is_due}
use Rattle.xl_table.specs.Files.{joined}
use Rattle.xl_table.proofs.listing.list_due.Given as goal

abbrev pub invariant-loop-list : goal.invariant-loop-list
invariant-loop-list l = l.due.items ++ filter (λ held. is_due l.now held) (joined (drop l.list-index l.lists)) ≡ filter (λ held. is_due l.now held) (joined l.lists)
