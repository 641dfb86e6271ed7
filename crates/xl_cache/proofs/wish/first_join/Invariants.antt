use Rattle.std.proofs.Common.{◌≡◌, find, drop}
use Rattle.std.specs.List.{filter_map}
use Rattle.xl_cache.specs.Wishing.{joined, may_replace}
use Rattle.xl_cache.proofs.wish.first_join.Given as goal

abbrev pub invariant-kinds : goal.invariant-kinds
invariant-kinds l =
    find (may_replace l.wanted l.held) (filter_map (joined l.kind) (drop l.choice-index l.wanted.kinds))
    ≡ find (may_replace l.wanted l.held) (filter_map (joined l.kind) l.wanted.kinds)
