use Rattle.std.proofs.Common.{◌≡◌, drop}
use Rattle.std.specs.List.{filter}
use Rattle.xl_core.specs.Blockers.{first_claim, is_against}
use Rattle.xl_core.proofs.blockers.first_against.Given as goal

abbrev pub invariant-asked : goal.invariant-asked
invariant-asked l = first_claim (filter (is_against l.ask) l.asked) ≡ first_claim (filter (is_against l.ask) (drop l.claim-index l.asked))
