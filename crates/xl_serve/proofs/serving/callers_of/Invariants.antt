use Rattle.std.proofs.Common.{◌≡◌, ◌++◌}
use Rattle.std.specs.Vec.Iter.{into_iter_items}
use Rattle.xl_serve.specs.Serve.{callers_in}
use Rattle.xl_serve.proofs.serving.callers_of.Given as goal

abbrev pub invariant-loop-done : goal.invariant-loop-done
invariant-loop-done g l = l.callers.items ++ callers_in (into_iter_items l.done-iterator) ≡ callers_in l.fn.calls.items
