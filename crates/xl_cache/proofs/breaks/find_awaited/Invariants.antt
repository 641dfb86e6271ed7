use Rattle.std.proofs.Common.{◌≡◌, find, drop}
use Rattle.xl_cache.specs.Holders.{is_awaited_beside}
use Rattle.xl_cache.proofs.breaks.find_awaited.Given as goal

abbrev pub invariant-held : goal.invariant-held
invariant-held l = find (is_awaited_beside l.ask l.sharers.keys) (drop l.claim-index l.held) ≡ find (is_awaited_beside l.ask l.sharers.keys) l.held
