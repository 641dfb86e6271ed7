use Rattle.std.proofs.Common.{◌≡◌, ◌++◌, drop}
use Rattle.std.specs.List.{filter}
use Rattle.xl_table.specs.Flat.{may_obstruct}
use Rattle.xl_table.proofs.listing.push_obstacles.Given as goal

abbrev pub invariant-loop-held : goal.invariant-loop-held
invariant-loop-held l = l.found.items ++ filter (may_obstruct l.ask) (drop l.held-index l.claims) ≡ l.fn.found.items ++ filter (may_obstruct l.ask) l.claims
