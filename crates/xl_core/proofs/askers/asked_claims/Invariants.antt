use Rattle.std.proofs.Common.{◌≡◌, ◌++◌, drop, map}
use Rattle.xl_core.specs.Askers.{range_what, asked_claims}
use Rattle.xl_core.proofs.askers.asked_claims.Given as goal

abbrev pub invariant-loop-range : goal.invariant-loop-range
invariant-loop-range l = l.claims.items ++ asked_claims l.ask (map range_what (drop l.range-index l.ranges)) l.names ≡ asked_claims l.ask (map range_what l.ranges) l.names
