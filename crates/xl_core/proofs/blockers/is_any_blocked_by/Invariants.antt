use Rattle.std.proofs.Common.{◌≡◌, drop}
use Rattle.std.specs.List.{list_any}
use Rattle.xl_core.specs.Blockers.{is_blocked_by}
use Rattle.xl_core.proofs.blockers.is_any_blocked_by.Given as goal

abbrev pub invariant-asked : goal.invariant-asked
invariant-asked l = list_any (is_blocked_by l.parts.table l.ask) l.asked ≡ list_any (is_blocked_by l.parts.table l.ask) (drop l.claim-index l.asked)
