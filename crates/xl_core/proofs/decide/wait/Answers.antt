use Rattle.std.proofs.Common.{Err, ap, ◌∙◌, arith}
use Rattle.xl_wait.specs.declared.queue.QueueErr.{QueueErr}
use Rattle.xl_core.proofs.decide.wait.Goals as goal

pub unreachable-requires : goal.unreachable-requires
unreachable-requires c =
    let full = (c.push.ensures.full c.in-Err-Full.field-0-0).0 (c.in-Err-Full.is ∙ ap (λ (e : QueueErr). Err e) c.in-Err-Full.field-0-is) in
    omega (arith, full.1, c.requires.room)
