use Rattle.std.proofs.Common.{◌≡◌, []}
use Rattle.xl_capture.specs.Show.{ops_from}
use Rattle.xl_capture.proofs.show.ops_of.Given as goal

abbrev pub invariant-ops : goal.invariant-ops
invariant-ops l = ops_from l.numbers.items l.left l.at.rest.now ≡ ops_from [] l.count l.args.rest.now

abbrev pub decreases-ops : goal.decreases-ops
decreases-ops l = l.left
