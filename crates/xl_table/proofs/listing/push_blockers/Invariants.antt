use Rattle.std.proofs.Common.{◌≡◌, ◌+◌, ◌++◌, drop}
use Rattle.std.specs.List.{filter}
use Rattle.xl_table.specs.Flat.{blocks}
use Rattle.xl_table.proofs.listing.push_blockers.Given as goal

abbrev pub invariant-loop-held : goal.invariant-loop-held
invariant-loop-held g l =
    (l.found.items ++ filter (λ held. blocks l.ask held) (drop l.held-index l.claims) ≡ l.fn.found.items ++ filter (λ held. blocks l.ask held) l.claims)
    × (l.steps ≡ l.fn.steps + l.held-index)
