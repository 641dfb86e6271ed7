use Rattle.std.proofs.Common.{◌≡◌, find, drop}
use Rattle.xl_cache.specs.Wishing.{is_its_cache}
use Rattle.xl_cache.proofs.wish.find_own_cache.Given as goal

abbrev pub invariant-held : goal.invariant-held
invariant-held l = find (is_its_cache l.wanted) (drop l.claim-index l.held) ≡ find (is_its_cache l.wanted) l.held
