use Rattle.std.proofs.Common.{◌≡◌, ◌++◌, drop}
use Rattle.std.specs.List.{filter}
use Rattle.xl_cache.specs.Holders.{is_keeper}
use Rattle.xl_cache.proofs.breaks.list_keepers.Given as goal

abbrev pub invariant-loop-claim : goal.invariant-loop-claim
invariant-loop-claim l = l.keepers.items ++ filter is_keeper (drop l.claim-index l.held) ≡ filter is_keeper l.held
