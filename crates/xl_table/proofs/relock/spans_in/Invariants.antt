use Rattle.std.proofs.Common.{◌≡◌, ◌++◌, drop}
use Rattle.xl_table.specs.Sections.{spans_in}
use Rattle.xl_table.proofs.relock.spans_in.Given as goal

abbrev pub invariant-loop-claim : goal.invariant-loop-claim
invariant-loop-claim l = l.spans.items ++ spans_in (drop l.claim-index l.claims) ≡ spans_in l.claims
