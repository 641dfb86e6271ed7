use Rattle.std.proofs.Common.{arith}
use Rattle.xl_spans.specs.Spans.{begins_by}
use Rattle.std.proofs.lemmas.List.Sums.{prefix_len-le-length}
use Rattle.xl_spans.proofs.InPlace.{places_in_order}
use Rattle.xl_spans.proofs.relock.touched_places.Goals as goal

pub returns-clause-order : goal.returns-clause-order
returns-clause-order c =
    let order = places_in_order c.saturating_sub.result c.saturating_add.result c.args.spans.now (omega arith) c.requires.canonical in
    omega (arith, order)

pub returns-clause-within : goal.returns-clause-within
returns-clause-within c = omega (arith, prefix_len-le-length (begins_by c.saturating_add.result) c.args.spans.now)
