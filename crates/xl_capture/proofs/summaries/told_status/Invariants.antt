use Rattle.std.proofs.Common.{◌≡◌, drop}
use Rattle.xl_capture.specs.Summary.{told_status}
use Rattle.xl_capture.proofs.summaries.told_status.Given as goal

abbrev pub invariant-loop-out : goal.invariant-loop-out
invariant-loop-out l = told_status (drop l.out-index l.outs) ≡ told_status l.outs
