use Rattle.std.proofs.Common.{◌≡◌, ◌++◌, map, drop}
use Rattle.xl_capture.specs.Rows.{row_of}
use Rattle.xl_capture.proofs.transcripts.rows_of.Given as goal

abbrev pub invariant-loop-claim : goal.invariant-loop-claim
invariant-loop-claim l = l.rows.items ++ map (row_of l.names) (drop l.claim-index l.claims) ≡ map (row_of l.names) l.claims
