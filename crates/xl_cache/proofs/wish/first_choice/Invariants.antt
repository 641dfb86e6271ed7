use Rattle.std.proofs.Common.{◌≡◌, find, drop}
use Rattle.xl_cache.specs.Wishing.{may_stand}
use Rattle.xl_cache.proofs.wish.first_choice.Given as goal

abbrev pub invariant-kinds : goal.invariant-kinds
invariant-kinds l = find (may_stand l.wanted l.held) (drop l.kind-index l.wanted.kinds) ≡ find (may_stand l.wanted l.held) l.wanted.kinds
