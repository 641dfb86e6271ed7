use Rattle.std.proofs.Common.{◌≡◌, drop}
use Rattle.xl_table.specs.Relock.{united_with}
use Rattle.xl_table.proofs.relock.united_with.Given as goal

abbrev pub invariant-loop-claim : goal.invariant-loop-claim
invariant-loop-claim l = united_with l.whole (drop l.claim-index l.held) ≡ united_with l.fn.what l.held
