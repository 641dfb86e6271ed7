use Rattle.std.proofs.Common.{◌≡◌, find, drop}
use Rattle.xl_cache.specs.Holders.{is_left_beside}
use Rattle.xl_cache.proofs.breaks.find_left.Given as goal

abbrev pub invariant-held : goal.invariant-held
invariant-held l = find (is_left_beside l.ask l.sharers.keys) (drop l.claim-index l.held) ≡ find (is_left_beside l.ask l.sharers.keys) l.held
